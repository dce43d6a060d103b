-- The table gone over for a name, place by place.
use Rattle.std.proofs.Common.{◌≡◌, ℕ, zero, suc, ◌+◌, ◌≤◌, Bool, true, false, ◌&&◌, List, [], ◌∷◌, drop, length, Some, None, sym, subst, refl, ap, ◌∙◌, add-one, arith}
use Rattle.std.specs.Str.{bytes_eq}
use Rattle.std.proofs.lemmas.Slice.Eq.{bytes_eq-Decides}
use Rattle.std.proofs.lemmas.Bool.{and_parts}
use Rattle.mutator.specs.declared.Ask.{Ask}
use Rattle.mutator.specs.declared.number.Number.{Number}
use Rattle.mutator.specs.Table.{name, calls, named, call_at}
use Rattle.script.specs.Reading.{StandsAt}

-- what stands at a place, and behind it
record Here (fs : List (List Number → Ask)) (p : ℕ) (q : Ask) : Type 0 where
  make : List Number → Ask
  is : drop p fs ≡ make ∷ drop (suc p) fs
  bare : make [] ≡ q
  at : (ns : List Number) → call_at fs p ns ≡ Some (make ns)

here : (fs : List (List Number → Ask)) (p : ℕ) (q : Ask) → call_at fs p [] ≡ Some q → Here fs p q
here [] p q h = let o : ◌≡◌ {A = ℕ} 0 1 = cc in absurd (omega arith)
here (f ∷ fs) zero q h = record { make = f; is = refl; bare = cc; at = λ ns. refl }
here (f ∷ fs) (suc p) q h = let k = here fs p q h in record { make = k.make; is = k.is; bare = k.bare; at = k.at }

-- so far the name was not there
abbrev pub Passed : List ℕ → ℕ → Type 0
Passed n p = named n calls ≡ named n (drop p calls)

pub pass : (n : List ℕ) (p : ℕ) (q : Ask) → Passed n p → call_at calls p [] ≡ Some q → bytes_eq n (name q) ≡ false → Passed n (p + 1)
pass n p q h k e =
    let t = here calls p q k in
    let f : bytes_eq n (name (t.make [])) ≡ false = ap (λ (x : Ask). bytes_eq n (name x)) t.bare ∙ e in
    let g : named n (t.make ∷ drop (suc p) calls) ≡ named n (drop (suc p) calls) = rw f in
    h ∙ ap (named n) t.is ∙ g ∙ ap (λ (i : ℕ). named n (drop i calls)) (sym (add-one p))

-- here it is
pub stands : (n : List ℕ) (p : ℕ) (q : Ask) → Passed n p → call_at calls p [] ≡ Some q → bytes_eq n (name q) ≡ true → StandsAt n (Some p)
stands n p q h k e =
    let t = here calls p q k in
    let f : bytes_eq n (name (t.make [])) ≡ true = ap (λ (x : Ask). bytes_eq n (name x)) t.bare ∙ e in
    let g : named n (t.make ∷ drop (suc p) calls) ≡ Some t.make = rw f in
    (t.make, h ∙ ap (named n) t.is ∙ g, t.at)

-- it is nowhere
none_at : (n : List ℕ) (fs : List (List Number → Ask)) (p : ℕ) → call_at fs p [] ≡ None → named n (drop p fs) ≡ None
none_at n [] zero h = refl
none_at n [] (suc p) h = refl
none_at n (f ∷ fs) zero h = let o : ◌≡◌ {A = ℕ} 0 1 = cc in absurd (omega arith)
none_at n (f ∷ fs) (suc p) h = none_at n fs p h

pub nowhere : (n : List ℕ) (p : ℕ) → Passed n p → call_at calls p [] ≡ None → StandsAt n None
nowhere n p h k = h ∙ none_at n calls p k

past : (fs : List (List Number → Ask)) (p : ℕ) → length fs ≤ p → call_at fs p [] ≡ None
past [] p l = refl
past (f ∷ fs) zero l = absurd (omega arith)
past (f ∷ fs) (suc p) l = past fs p (omega arith)

pub nowhere_past : (n : List ℕ) (p : ℕ) → Passed n p → length calls ≤ p → StandsAt n None
nowhere_past n p h l = nowhere n p h (past calls p l)

-- what each name of the table passes, a name that is found passes
abbrev pub all_names : (List ℕ → Bool) → List (List Number → Ask) → Bool
all_names p [] = true
all_names p (f ∷ fs) = p (name (f [])) && all_names p fs

pub named_passes : (p : List ℕ → Bool) (n : List ℕ) (fs : List (List Number → Ask)) (f : List Number → Ask) → all_names p fs ≡ true → named n fs ≡ Some f → p n ≡ true
named_passes p n [] f s h = let o : ◌≡◌ {A = ℕ} 0 1 = cc in absurd (omega arith)
named_passes p n (g ∷ gs) f s h = by_test (bytes_eq n (name (g []))) refl (named_passes p n gs f (and_parts (p (name (g []))) (all_names p gs) s).1)
  where
    by_test : (t : Bool) → bytes_eq n (name (g [])) ≡ t → (named n gs ≡ Some f → p n ≡ true) → p n ≡ true
    by_test false e ih = ih (rw e at h)
    by_test true e ih = subst (λ (m : List ℕ). p m ≡ true) (sym ((bytes_eq-Decides n (name (g []))).0 e)) (and_parts (p (name (g []))) (all_names p gs) s).0
