use Rattle.std.proofs.Common.{arith}
use Rattle.js_parser.proofs.Scripts.{unique, read_only, refused_only}
use Rattle.js_parser.proofs.parser.parse_script.Goals as goal

pub read-requires : goal.read-requires
read-requires c = omega (arith, c.in-Ok.ensures.size, c.requires)

pub returns-in-Ok-read-clause-only : goal.returns-in-Ok-read-clause-only
returns-in-Ok-read-clause-only c = read_only c.readings.ensures.read c.readings.ensures.one _ _ _ _ c.in-Ok.ensures.decodes.1 c.in-Ok-read.ensures c.named.ensures

pub returns-in-Ok-read-clause-unique : goal.returns-in-Ok-read-clause-unique
returns-in-Ok-read-clause-unique c = unique c.readings.ensures.read c.readings.ensures.one c.args.bytes.now

pub returns-in-Ok-clause-only : goal.returns-in-Ok-clause-only
returns-in-Ok-clause-only c = refused_only c.readings.ensures.read c.readings.ensures.one _ _ _ c.in-Ok.ensures.decodes.1 c.in-Err-read.ensures

pub returns-in-Ok-clause-unique : goal.returns-in-Ok-clause-unique
returns-in-Ok-clause-unique c = unique c.readings.ensures.read c.readings.ensures.one c.args.bytes.now

pub returns-clause-unique : goal.returns-clause-unique
returns-clause-unique c = unique c.readings.ensures.read c.readings.ensures.one c.args.bytes.now
