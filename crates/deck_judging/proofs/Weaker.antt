-- What an answer is said to be.
use Rattle.std.proofs.Common.{Result, Ok, Err, IfOk}

-- what follows from it is so too
pub ok_weaker : {A E : Type 0} (P Q : A → Type 0) (r : Result A E) → ((a : A) → P a → Q a) → IfOk r P → IfOk r Q
ok_weaker P Q (Ok a) f h = f a h
ok_weaker P Q (Err e) f h = h
