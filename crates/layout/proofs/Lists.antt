-- Lists by index: past the end, under `map`, and tests over all elements.
use Rattle.std.proofs.Common.{◌≡◌, ℕ, zero, suc, ◌≤◌, Bool, true, List, [], ◌∷◌, map, length, replicate, refl, arith}
use mathlib.Core.Option.{some, none, none-ne-some}
use Rattle.std.proofs.lemmas.Bool.{and_parts, and_from}
use Rattle.world.specs.Base.{nth, put}
use Rattle.layout.specs.Sound.{all_of, all_true}

pub none_some : {A : Type 0} {x : A} → none ≡ some x → ⊥
none_some {x = x} e = none-ne-some x e

pub some_some : {A : Type 0} {x y : A} → some x ≡ some y → x ≡ y
some_some e = cc

pub nth_past : {A : Type 0} (xs : List A) (i : ℕ) → length xs ≤ i → nth xs i ≡ none
nth_past [] i h = refl
nth_past (y ∷ ys) zero h = absurd (omega arith)
nth_past (y ∷ ys) (suc i) h = nth_past ys i (omega arith)

pub nth_map : {A B : Type 0} (f : A → B) (xs : List A) (i : ℕ) (x : A) → nth xs i ≡ some x → nth (map f xs) i ≡ some (f x)
nth_map f [] i x e = absurd (none_some e)
nth_map f (y ∷ ys) zero x e = cc
nth_map f (y ∷ ys) (suc i) x e = nth_map f ys i x e

-- what a list has under `map` comes from an element at the same place
pub nth_unmap : {A B : Type 0} (f : A → B) (xs : List A) (i : ℕ) (y : B) → nth (map f xs) i ≡ some y → (x : A) × (nth xs i ≡ some x) × (f x ≡ y)
nth_unmap f [] i y e = absurd (none_some e)
nth_unmap f (x ∷ xs) zero y e = (x, refl, some_some e)
nth_unmap f (x ∷ xs) (suc i) y e = nth_unmap f xs i y e

pub map_same : {A B : Type 0} (f g : A → B) (xs : List A) → ((i : ℕ) (x : A) → nth xs i ≡ some x → f x ≡ g x) → map f xs ≡ map g xs
map_same f g [] h = refl
map_same f g (x ∷ xs) h = let e = h 0 x refl in let r = map_same f g xs (λ i y m. h (suc i) y m) in cc

-- one changes, the others do not
pub map_put : {A B : Type 0} (f g : A → B) (xs : List A) (i : ℕ) (x : A) (y : B) → nth xs i ≡ some x → f x ≡ y
    → ((j : ℕ) (z : A) → nth xs j ≡ some z → (j ≡ i → ⊥) → f z ≡ g z) → map f xs ≡ put (map g xs) i y
map_put f g [] i x y e h o = absurd (none_some e)
map_put f g (z ∷ zs) zero x y e h o =
    let r = map_same f g zs (λ j w m. o (suc j) w m (λ q. omega arith)) in
    let k : z ≡ x = some_some e in
    cc
map_put f g (z ∷ zs) (suc i) x y e h o =
    let r = map_put f g zs i x y e h (λ j w m n. o (suc j) w m (λ q. n (omega arith))) in
    let k = o 0 z refl (λ q. omega arith) in
    cc

pub map_put_one : {A B : Type 0} (f : A → B) (xs : List A) (i : ℕ) (x : A) → map f (put xs i x) ≡ put (map f xs) i (f x)
map_put_one f [] i x = refl
map_put_one f (y ∷ ys) zero x = refl
map_put_one f (y ∷ ys) (suc i) x = let r = map_put_one f ys i x in cc

pub map_replicate : {A B : Type 0} (f : A → B) (n : ℕ) (x : A) → map f (replicate n x) ≡ replicate n (f x)
map_replicate f zero x = refl
map_replicate f (suc n) x = let r = map_replicate f n x in cc

-- a test over all, and of each
pub all_at : {A : Type 0} (f : A → Bool) (xs : List A) → all_of f xs ≡ true → (i : ℕ) (x : A) → nth xs i ≡ some x → f x ≡ true
all_at f [] h i x e = absurd (none_some e)
all_at f (y ∷ ys) h zero x e = let p = (and_parts (f y) (all_of f ys) h).0 in let q : y ≡ x = some_some e in cc
all_at f (y ∷ ys) h (suc i) x e = all_at f ys (and_parts (f y) (all_of f ys) h).1 i x e

pub all_from : {A : Type 0} (f : A → Bool) (xs : List A) → ((i : ℕ) (x : A) → nth xs i ≡ some x → f x ≡ true) → all_of f xs ≡ true
all_from f [] h = refl
all_from f (y ∷ ys) h = and_from (f y) (all_of f ys) (h 0 y refl) (all_from f ys (λ i x e. h (suc i) x e))

pub true_at : (bs : List Bool) → all_true bs ≡ true → (i : ℕ) (b : Bool) → nth bs i ≡ some b → b ≡ true
true_at [] h i b e = absurd (none_some e)
true_at (c ∷ bs) h zero b e = let p = (and_parts c (all_true bs) h).0 in let q : c ≡ b = some_some e in cc
true_at (c ∷ bs) h (suc i) b e = true_at bs (and_parts c (all_true bs) h).1 i b e
