mod FromBehind
