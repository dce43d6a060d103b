-- The touches of a script, from its turns.
use Rattle.std.proofs.Common.{◌≡◌, ℕ, zero, suc, ◌+◌, ◌*◌, ◌≤◌, List, [], ◌∷◌, ◌++◌, length, take, drop, get_or, sym, ap, ◌∙◌, subst, arith}
use Rattle.std.proofs.lemmas.List.{take_all}
use Rattle.std.proofs.Math.Seq.{take-append_seam}
use Rattle.mutator.specs.declared.Ask.{Ask}
use Rattle.heap.specs.declared.playing.Turn.{Turn}
use Rattle.heap.specs.Playing.{Bounded as TurnsBounded, Given, PlaysAs}
use Rattle.bench.specs.Touches.{Bounded}

counted : (n : ℕ) (ts : List Turn) (xs : List ℕ) → TurnsBounded n ts → Given (λ t x. x ≡ t.touched) ts xs → (k : ℕ) → get_or xs k 0 ≤ 9 * n + 6
counted n [] [] b g k = omega arith
counted n [] (x ∷ xs) b g k = absurd g
counted n (t ∷ ts) [] b g k = absurd g
counted n (t ∷ ts) (x ∷ xs) b g zero = omega (arith, b.0, g.0)
counted n (t ∷ ts) (x ∷ xs) b g (suc k) = counted n ts xs b.1 g.1 k

pub touches_bounded : (n slots : ℕ) (qs : List Ask) (o o' : List ℕ) → PlaysAs (λ t x. x ≡ t.touched) n slots qs o o' → length o' ≡ length qs → Bounded n o'
touches_bounded n slots qs o o' p l = λ k. counted n p.turns o' p.bounded (subst (Given (λ t x. x ≡ t.touched) p.turns) (take_all (length qs) o' (omega (arith, l))) p.given) k

-- what a function left in a slice of a vector stands in the vector
pub written_back : (n : ℕ) (o xs : List ℕ) → length o ≡ n → take n (o ++ drop (length o) xs) ≡ o
written_back n o xs e = ap (λ (k : ℕ). take k (o ++ drop (length o) xs)) (sym e) ∙ take-append_seam o (drop (length o) xs)
