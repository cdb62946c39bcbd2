-- Earlier variables and clauses stand.
use Rattle.bit_words.proofs.Standing.{stands_same, stands_added, stands_kept, stands_both}

pub ruleset standing = (stands_same, stands_added, stands_kept, stands_both)
