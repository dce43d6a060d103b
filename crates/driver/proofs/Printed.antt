-- What a writer holds behind several writes, and the lines of answers one by one.
use Rattle.std.proofs.Common.{◌≡◌, ℕ, ◌+◌, ◌<◌, ◌≤◌, List, [], ◌∷◌, ◌++◌, length, map, take, get_or, sym, ap, ◌∙◌}
use Rattle.std.proofs.lemmas.List.{append-nil, append_assoc, take_all}
use Rattle.std.proofs.Math.Seq.{take-suc}
use Rattle.std.proofs.Math.Numerals.{add-one}
use Rattle.std.specs.Io.KnownBytes.{Appends, Keeps}
use Rattle.std.specs.Prelude.{Option, Result, Some, None, Ok, Err, IfOk}
use Rattle.mutator.specs.declared.Told.{Told}
use Rattle.mutator.specs.Refusals.{answer_of}
use Rattle.driver.specs.Playing.{line_for, printed}

pub appends_nothing : (a : Option (List ℕ)) → Appends a a []
appends_nothing None = tt
appends_nothing (Some xs) = sym (append-nil xs)

pub appends_on : (a b c : Option (List ℕ)) (xs ys : List ℕ) → Appends a b xs → Appends b c ys → Appends a c (xs ++ ys)
appends_on None b c xs ys p q = tt
appends_on (Some x) None c xs ys p q = absurd p
appends_on (Some x) (Some y) None xs ys p q = absurd q
appends_on (Some x) (Some y) (Some z) xs ys p q = q ∙ ap (λ v. v ++ ys) p ∙ append_assoc x xs ys

pub keeps_on : (a b c : Option (List ℕ)) (xs : List ℕ) → Appends a b xs → Keeps b c → Appends a c xs
keeps_on None b c xs p q = tt
keeps_on (Some x) None c xs p q = absurd p
keeps_on (Some x) (Some y) None xs p q = absurd q
keeps_on (Some x) (Some y) (Some z) xs p q = q ∙ p

-- the lines for what is told
abbrev pub told_lines : List Told → List ℕ
told_lines ts = printed (map answer_of ts)

told_push : (ts : List Told) (t : Told) → told_lines (ts ++ t ∷ []) ≡ told_lines ts ++ line_for (answer_of t)
told_push [] t = append-nil (line_for (answer_of t))
told_push (u ∷ us) t = ap (λ v. line_for (answer_of u) ++ v) (told_push us t) ∙ sym (append_assoc (line_for (answer_of u)) (told_lines us) (line_for (answer_of t)))

pub told_next : (ts : List Told) (i : ℕ) (d : Told) → i < length ts → told_lines (take (i + 1) ts) ≡ told_lines (take i ts) ++ line_for (answer_of (get_or ts i d))
told_next ts i d l = ap (λ k. told_lines (take k ts)) (add-one i) ∙ ap told_lines (take-suc ts i d l) ∙ told_push (take i ts) (get_or ts i d)

-- once the index has come to the end, all of them
pub told_all : (ts : List Told) (i : ℕ) → length ts ≤ i → told_lines (take i ts) ≡ told_lines ts
told_all ts i l = ap told_lines (take_all i ts l)

pub if_ok : {X Y : Type 0} (r : Result X Y) (P : X → Type 0) → ((x : X) → P x) → IfOk r P
if_ok (Ok x) P p = p x
if_ok (Err e) P p = tt
