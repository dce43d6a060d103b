-- Arms of a call that meet again.
use Rattle.std.proofs.Common.{◌≡◌, ℕ, Result, sym, ap, ◌∙◌, subst}
use Rattle.mutator.specs.declared.Ask.{Ask}
use Rattle.mutator.specs.declared.refusal.Refusal.{Refusal}
use Rattle.reference.specs.declared.plain.PlainWorld.{PlainWorld}
use Rattle.mutator.specs.Script.{Answer}
use Rattle.mutator.specs.Refusals.{said}
use Rattle.reference.specs.View.{Does}

-- what one arm does, the call does: the ask, the world after and the answer are the arm's
pub acts_does : (p : PlainWorld) (q q₁ : Ask) (p₁ p₂ : PlainWorld) (r₁ r₂ : Result ℕ Refusal) (t : Answer) → q ≡ q₁ → p₂ ≡ p₁ → r₂ ≡ r₁ → Does p q₁ p₁ (said r₁) → t ≡ said r₂ → Does p q p₂ t
acts_does p q q₁ p₁ p₂ r₁ r₂ t e f g d s =
    let u : said r₁ ≡ t = sym (s ∙ ap said g) in
    subst (λ (x : Ask). Does p x p₂ t) (sym e) (subst (λ (y : PlainWorld). Does p q₁ y t) (sym f) (subst (λ (z : Answer). Does p q₁ p₁ z) u d))
