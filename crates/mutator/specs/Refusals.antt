-- What is told of a call that is done, and of one that is refused.
use Rattle.std.specs.Prelude.{ℕ, Ok, Err, Result}
use Rattle.mutator.specs.declared.Told.{Told}
use Rattle.mutator.specs.declared.refusal.Refusal.{Refusal}
use Rattle.mutator.specs.declared.refusal.Refusal.TheVariants.{Full, NoSlot, Nothing, NoPlace}
use Rattle.mutator.specs.Script.{Answer, told}

abbrev pub answer_of : Told → Answer
answer_of t = told t.code t.val

abbrev pub said : Result ℕ Refusal → Answer
said (Ok v) = told 1 v
said (Err Full) = told 0 0
said (Err NoSlot) = told 2 0
said (Err Nothing) = told 3 0
said (Err NoPlace) = told 4 0
