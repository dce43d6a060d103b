-- A line is read as a call just if it spells that call.
use Rattle.std.proofs.Common.{◌≡◌, ℕ, suc, ◌-◌, ◌^◌, ◌<◌, ◌≤◌, Bool, true, false, not, eqb, leb, slice_index, List, [], ◌∷◌, ◌++◌, map, length, Some, None, Option, Ok, Err, Result, sym, refl, ap, ap₂, ◌∙◌, subst, append_assoc, append-nil, arith}
use lib.ListN.{length-map}
use Rattle.std.specs.Str.{all_ascii_digits, bytes_eq}
use Rattle.std.proofs.lemmas.Slice.Eq.{bytes_eq-Decides}
use Rattle.std.specs.Char.{is_ascii_digit}
use Rattle.std.proofs.lemmas.Bool.{leb-true, le-leb, not-true, and_parts, ne_eqb}
use Rattle.mutator.specs.declared.Ask.{Ask}
use Rattle.mutator.specs.declared.number.Number.{Number}
use Rattle.mutator.specs.Numbers.{value, most, like}
use Rattle.mutator.specs.Table.{name, numbers, calls, named}
use Rattle.mutator.specs.TableLaws.{likes}
use Rattle.mutator.proofs.Listing.{Made, AllMade, all_made, found, like_value, like_most}
use Rattle.script.specs.declared.error.LineError.{LineError}
use Rattle.script.specs.declared.error.LineError.TheVariants.{UnknownCall, TooFewNumbers, TooManyNumbers, NotANumber, NumberTooLarge, WordsTooLarge}
use Rattle.script.specs.declared.read.HeapSize.{HeapSize}
use Rattle.script.specs.Tokens.{tokens}
use Rattle.script.specs.Numbers.{value as written, number}
use Rattle.script.specs.Reading.{bind, next, ended, reads, made_of, called, reading, body, call_of, heap_size, heap_size_of, sized, passed_over}
use Rattle.script.specs.Spelling.{WriteAll, AllWithin, Fits, Spells, ReadsWhatIsSpelt, ReadsLines, ReadsSizeThatIsSpelt, ReadsOpenings}
use Rattle.script.proofs.Lines.{met, read_on, read_off}
use Rattle.script.proofs.Naming.{named_passes}

-- one number
number_at : (m n : ℕ) (e : LineError) (t : List ℕ) (d s : Bool) → all_ascii_digits t ≡ d → leb (written t) m ≡ s → number m e t ≡ Ok n → (all_ascii_digits t ≡ true) × (written t ≡ n) × (n ≤ m)
number_at m n e t true true p q h = let k : written t ≡ n = let z : ◌≡◌ {A = Result ℕ LineError} (Ok (written t)) (Ok n) = simp (p, q) at h in cc in (p, k, omega (arith, leb-true (written t) m q))
number_at m n e t true false p q h = let z : ◌≡◌ {A = Result ℕ LineError} (Err e) (Ok n) = simp (p, q) at h in let o : ◌≡◌ {A = ℕ} 0 1 = cc in absurd (omega arith)
number_at m n e t false s p q h = let z : ◌≡◌ {A = Result ℕ LineError} (Err NotANumber) (Ok n) = simp p at h in let o : ◌≡◌ {A = ℕ} 0 1 = cc in absurd (omega arith)

number_ok : (m n : ℕ) (e : LineError) (t : List ℕ) → number m e t ≡ Ok n → (all_ascii_digits t ≡ true) × (written t ≡ n) × (n ≤ m)
number_ok m n e t h = number_at m n e t (all_ascii_digits t) (leb (written t) m) refl refl h

ok_number : (m n : ℕ) (e : LineError) (t : List ℕ) → all_ascii_digits t ≡ true → written t ≡ n → n ≤ m → number m e t ≡ Ok n
ok_number m n e t d v h = let s = le-leb (written t) m (omega arith) in rw (d, s) (ap Ok v)

never : {A E : Type 0} {P : Type 0} (e : E) (x : A) → ◌≡◌ {A = Result A E} (Err e) (Ok x) → P
never e x h = let o : ◌≡◌ {A = ℕ} 0 1 = cc in absurd (omega arith)

-- a bind that is Ok was Ok before
bound : {A B E : Type 0} (r : Result A E) (f : A → Result B E) (y : B) → bind r f ≡ Ok y → (x : A) × (r ≡ Ok x) × (f x ≡ Ok y)
bound (Ok x) f y h = (x, refl, h)
bound (Err e) f y h = never e y h

-- as many values as kinds, each at most what one of its kind may be
abbrev AllMost : List Number → List ℕ → Type 0
AllMost [] [] = Unit {0}
AllMost [] (v ∷ vs) = ⊥
AllMost (k ∷ ks) [] = ⊥
AllMost (k ∷ ks) (v ∷ vs) = (v ≤ most k) × AllMost ks vs

likes_length : (ks : List Number) (vs : List ℕ) → length (likes ks vs) ≡ length ks
likes_length [] vs = refl
likes_length (k ∷ ks) [] = refl
likes_length (k ∷ ks) (v ∷ vs) = ap suc (likes_length ks vs)

likes_values : (ks : List Number) (vs : List ℕ) → AllMost ks vs → map value (likes ks vs) ≡ vs
likes_values [] [] m = refl
likes_values [] (v ∷ vs) m = absurd m
likes_values (k ∷ ks) [] m = absurd m
likes_values (k ∷ ks) (v ∷ vs) m = ap₂ ◌∷◌ (like_value k v) (likes_values ks vs m.1)

likes_within : (ks : List Number) (vs : List ℕ) → AllMost ks vs → AllWithin (likes ks vs)
likes_within [] vs m = tt
likes_within (k ∷ ks) [] m = absurd m
likes_within (k ∷ ks) (v ∷ vs) m = (omega (arith, like_value k v, like_most k v, m.0), likes_within ks vs m.1)

within_likes : (ks : List Number) (vs : List ℕ) → length ks ≡ length vs → AllWithin (likes ks vs) → AllMost ks vs
within_likes [] [] e w = tt
within_likes [] (v ∷ vs) e w = absurd (omega (arith, e))
within_likes (k ∷ ks) [] e w = absurd (omega (arith, e))
within_likes (k ∷ ks) (v ∷ vs) e w = (omega (arith, like_value k v, like_most k v, w.0), within_likes ks vs (omega (arith, e)) w.1)

-- tokens that write the values are read as numbers of the kinds
ok_reads : (front ks : List Number) (ts : List (List ℕ)) (vs : List ℕ) → WriteAll ts vs → AllMost ks vs → reads front ks ts ≡ Ok (front ++ likes ks vs)
ok_reads front [] [] [] a m = ap (λ (ns : List Number). Ok ns) (sym (append-nil front))
ok_reads front [] [] (v ∷ vs) a m = absurd a
ok_reads front [] (t ∷ ts) [] a m = absurd a
ok_reads front [] (t ∷ ts) (v ∷ vs) a m = absurd m
ok_reads front (k ∷ ks) ts [] a m = absurd m
ok_reads front (k ∷ ks) [] (v ∷ vs) a m = absurd a
ok_reads front (k ∷ ks) (t ∷ ts) (v ∷ vs) a m =
    let e = ok_number (most k) v (NumberTooLarge (most k)) t a.0 a.1 m.0 in
    rw e (ok_reads (front ++ like k v ∷ []) ks ts vs a.2 m.1 ∙ ap (λ (ns : List Number). Ok ns) (append_assoc front (like k v ∷ []) (likes ks vs)))

-- and back
record Numbered (front ks : List Number) (ts : List (List ℕ)) (ns : List Number) : Type 0 where
  vs : List ℕ
  written : WriteAll ts vs
  within : AllMost ks vs
  is : ns ≡ front ++ likes ks vs

numbered : (front ks : List Number) (ts : List (List ℕ)) (ns : List Number) → reads front ks ts ≡ Ok ns → Numbered front ks ts ns
numbered front [] [] ns h = let e : front ≡ ns = cc in record { vs = []; written = tt; within = tt; is = sym (append-nil front ∙ e) }
numbered front [] (t ∷ ts) ns h = never TooManyNumbers ns h
numbered front (k ∷ ks) [] ns h = never TooFewNumbers ns h
numbered front (k ∷ ks) (t ∷ ts) ns h = by_number (number (most k) (NumberTooLarge (most k)) t) refl (λ v g. numbered (front ++ like k v ∷ []) ks ts ns g)
  where
    by_number : (r : Result ℕ LineError) → number (most k) (NumberTooLarge (most k)) t ≡ r → ((v : ℕ) → reads (front ++ like k v ∷ []) ks ts ≡ Ok ns → Numbered (front ++ like k v ∷ []) ks ts ns) → Numbered front (k ∷ ks) (t ∷ ts) ns
    by_number (Err e) p ih = never e ns (rw p at h)
    by_number (Ok v) p ih =
        let g = ih v (rw p at h) in
        let o = number_ok (most k) v (NumberTooLarge (most k)) t p in
        record { vs = v ∷ g.vs; written = (o.0, o.1, g.written); within = (o.2, g.within); is = g.is ∙ append_assoc front (like k v ∷ []) (likes ks g.vs) }

-- a call that is made of numbers of its kinds has these, and its own name
made_of_likes : (f : List Number → Ask) (front ks : List Number) (vs : List ℕ) → AllMost ks vs → Made f ks front → (numbers (f (front ++ likes ks vs)) ≡ front ++ likes ks vs) × (name (f (front ++ likes ks vs)) ≡ name (f []))
made_of_likes f front [] vs w m = subst (λ (ns : List Number). (numbers (f ns) ≡ ns) × (name (f ns) ≡ name (f []))) (sym (append-nil front)) m
made_of_likes f front (k ∷ ks) [] w m = absurd w
made_of_likes f front (k ∷ ks) (v ∷ vs) w m =
    subst (λ (ns : List Number). (numbers (f ns) ≡ ns) × (name (f ns) ≡ name (f []))) (append_assoc front (like k v ∷ []) (likes ks vs)) (made_of_likes f (front ++ like k v ∷ []) ks vs w.1 (m v))

made_named : (n : List ℕ) (fs : List (List Number → Ask)) (f : List Number → Ask) → AllMade fs → named n fs ≡ Some f → (n ≡ name (f [])) × Made f (numbers (f [])) []
made_named n [] f a h = let o : ◌≡◌ {A = ℕ} 0 1 = cc in absurd (omega arith)
made_named n (g ∷ gs) f a h = by_test (bytes_eq n (name (g []))) refl (made_named n gs f a.1)
  where
    by_test : (t : Bool) → bytes_eq n (name (g [])) ≡ t → (named n gs ≡ Some f → (n ≡ name (f [])) × Made f (numbers (f [])) []) → (n ≡ name (f [])) × Made f (numbers (f [])) []
    by_test false e ih = ih (rw e at h)
    by_test true e ih =
        let s : g ≡ f = let z : ◌≡◌ {A = Option (List Number → Ask)} (Some g) (Some f) = rw e at h in cc in
        subst (λ (k : List Number → Ask). (n ≡ name (k [])) × Made k (numbers (k [])) []) s ((bytes_eq-Decides n (name (g []))).0 e, a.0)

pub record Spelt (m : List ℕ) (ts : List (List ℕ)) (q : Ask) : Type 0 where
  pub named : m ≡ name q
  pub written : WriteAll ts (map value (numbers q))
  pub fits : Fits q

made_ok : (n : List ℕ) (ts : List (List ℕ)) (q : Ask) (f : List Number → Ask) → named n calls ≡ Some f → made_of (Some f) ts ≡ Ok q → Spelt n ts q
made_ok n ts q f e h =
    let ks = numbers (f []) in
    let m = made_named n calls f all_made e in
    let r = bound (reads [] ks ts) (λ ns. Ok (f ns)) q h in
    let g = numbered [] ks ts r.0 r.1 in
    let is : f (likes ks g.vs) ≡ q = ap f (sym g.is) ∙ (let z : ◌≡◌ {A = Result Ask LineError} (Ok (f r.0)) (Ok q) = r.2 in cc) in
    let k = made_of_likes f [] ks g.vs g.within m.1 in
    subst (Spelt n ts) is (record {
      named = m.0 ∙ sym k.1;
      written = rw (k.0, likes_values ks g.vs g.within) g.written;
      fits = rw k.0 (likes_within ks g.vs g.within);
    })

called_ok : (n : List ℕ) (ts : List (List ℕ)) (q : Ask) → called n ts ≡ Ok q → Spelt n ts q
called_ok n ts q h = by_name (named n calls) refl
  where
    by_name : (o : Option (List Number → Ask)) → named n calls ≡ o → Spelt n ts q
    by_name None e = never UnknownCall q (ap (λ (o : Option (List Number → Ask)). made_of o ts) (sym e) ∙ h)
    by_name (Some f) e = made_ok n ts q f e (ap (λ (o : Option (List Number → Ask)). made_of o ts) (sym e) ∙ h)

ok_called : (ts : List (List ℕ)) (q : Ask) → WriteAll ts (map value (numbers q)) → Fits q → called (name q) ts ≡ Ok q
ok_called ts q a w =
    let t = found q in
    let ks = numbers (t.make []) in
    let vs = map value (numbers q) in
    let l : length ks ≡ length vs = sym (likes_length ks vs) ∙ ap length t.kinds ∙ sym (length-map (numbers q) value) in
    let m = within_likes ks vs l (subst AllWithin (sym t.kinds) w) in
    ap (λ (o : Option (List Number → Ask)). made_of o ts) t.is
    ∙ ap (λ (r : Result (List Number) LineError). bind r (λ ns. Ok (t.make ns))) (ok_reads [] ks ts vs a m ∙ ap (λ (ns : List Number). Ok ns) t.kinds)
    ∙ ap (λ (p : Ask). Ok p) t.again

spells_at : (line : List ℕ) (us : List (List ℕ)) (q : Ask) → tokens (body line) ≡ us → reading us ≡ Ok q → Spells line q
spells_at line [] q e h = never UnknownCall q h
spells_at line (n ∷ ts) q e h =
    let s = called_ok n ts q h in
    record { rest = ts; named = e ∙ ap (λ (m : List ℕ). m ∷ ts) s.named; written = s.written; fits = s.fits }

pub reads_what_is_spelt : ReadsWhatIsSpelt
reads_what_is_spelt line q = (
  spells_at line (tokens (body line)) q refl,
  λ s. ap reading s.named ∙ ok_called s.rest q s.written s.fits,
)

-- no name begins with `#`
abbrev starts : List ℕ → Bool
starts m = not (eqb (slice_index m 0) 35)

pub reads_lines : ReadsLines
reads_lines line q = (
  λ e. (reads_what_is_spelt line q).0 (read_off line (call_of line) q e),
  λ s. let t = found q in
      let d = not-true _ (named_passes starts (name q) calls t.make refl t.is) in
      read_on line (call_of line) q (met line (name q) s.rest s.named d) ((reads_what_is_spelt line q).1 s),
)

-- the first line of a script
abbrev Sizes : List (List ℕ) → HeapSize → Type 0
Sizes ts h = WriteAll ts (h.words ∷ h.slots ∷ []) × (h.words < 2 ^ 56) × (h.slots < 65536)

ended_ok : (ts : List (List ℕ)) (h : HeapSize) (g : HeapSize) → bind (ended ts) (λ u. Ok g) ≡ Ok h → (ts ≡ []) × (g ≡ h)
ended_ok [] h g e = (refl, cc)
ended_ok (t ∷ ts) h g e = never TooManyNumbers h e

slots_ok : (m : ℕ) (ts : List (List ℕ)) (h : HeapSize) → bind (next 65535 (NumberTooLarge 65535) ts) (λ q. bind (ended q.1) (λ u. Ok (heap_size m q.0))) ≡ Ok h → WriteAll ts (h.slots ∷ []) × (h.slots < 65536) × (h.words ≡ m)
slots_ok m [] h e = never TooFewNumbers h e
slots_ok m (t ∷ ts) h e = by_number (number 65535 (NumberTooLarge 65535) t) refl
  where
    by_number : (r : Result ℕ LineError) → number 65535 (NumberTooLarge 65535) t ≡ r → WriteAll (t ∷ ts) (h.slots ∷ []) × (h.slots < 65536) × (h.words ≡ m)
    by_number (Err f) p = never f h (rw p at e)
    by_number (Ok v) p =
        let o = number_ok 65535 v (NumberTooLarge 65535) t p in
        let d = ended_ok ts h (heap_size m v) (rw p at e) in
        subst (λ (k : HeapSize). WriteAll (t ∷ ts) (k.slots ∷ []) × (k.slots < 65536) × (k.words ≡ m)) d.1
        (subst (λ (us : List (List ℕ)). WriteAll (t ∷ us) (v ∷ [])) (sym d.0) (o.0, o.1, tt), omega (arith, o.2), refl)

size_ok : (ts : List (List ℕ)) (h : HeapSize) → sized ts ≡ Ok h → Sizes ts h
size_ok [] h e = never TooFewNumbers h e
size_ok (t ∷ ts) h e = by_number (number (2 ^ 56 - 1) WordsTooLarge t) refl
  where
    by_number : (r : Result ℕ LineError) → number (2 ^ 56 - 1) WordsTooLarge t ≡ r → Sizes (t ∷ ts) h
    by_number (Err f) p = never f h (rw p at e)
    by_number (Ok v) p =
        let o = number_ok (2 ^ 56 - 1) v WordsTooLarge t p in
        let d = slots_ok v ts h (rw p at e) in
        ((o.0, o.1 ∙ sym d.2, d.0), omega (arith, o.2, d.2), d.1)

ok_size : (ts : List (List ℕ)) (h : HeapSize) → Sizes ts h → sized ts ≡ Ok h
ok_size [] h s = absurd s.0
ok_size (t ∷ []) h s = absurd s.0.2
ok_size (t ∷ u ∷ []) h s =
    let p = ok_number (2 ^ 56 - 1) h.words WordsTooLarge t s.0.0 s.0.1 (omega (arith, s.1)) in
    let q = ok_number 65535 h.slots (NumberTooLarge 65535) u s.0.2.0 s.0.2.1 (omega (arith, s.2)) in
    rw (p, q) refl
ok_size (t ∷ u ∷ v ∷ ts) h s = absurd s.0.2.2

pub reads_size_that_is_spelt : ReadsSizeThatIsSpelt
reads_size_that_is_spelt line h = (size_ok (tokens (body line)) h, ok_size (tokens (body line)) h)

digit_first : (t : List ℕ) → all_ascii_digits t ≡ true → eqb (slice_index t 0) 35 ≡ false
digit_first [] d = refl
digit_first (c ∷ cs) d =
    let p = and_parts (is_ascii_digit c) (all_ascii_digits cs) d in
    let q = and_parts (leb 48 c) (leb c 57) p.0 in
    ne_eqb c 35 (λ e. omega (arith, leb-true 48 c q.0))

opens : (line : List ℕ) (us : List (List ℕ)) (h : HeapSize) → tokens (body line) ≡ us → Sizes us h → passed_over line ≡ false
opens line [] h e s = absurd s.0
opens line (t ∷ ts) h e s = met line t ts e (digit_first t s.0.0)

pub reads_openings : ReadsOpenings
reads_openings line h = (
  λ e. (reads_size_that_is_spelt line h).0 (read_off line (heap_size_of line) h e),
  λ s. read_on line (heap_size_of line) h (opens line (tokens (body line)) h refl s) ((reads_size_that_is_spelt line h).1 s),
)
