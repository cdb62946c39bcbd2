mod Bottom
