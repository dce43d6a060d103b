-- What is printed of a call is read as that call.
use Rattle.std.proofs.Common.{◌≡◌, ℕ, zero, suc, ◌^◌, ◌<◌, Bool, true, false, not, ◌&&◌, eqb, ltb, leb, List, [], ◌∷◌, ◌++◌, map, length, decimal, refl, ap, ◌∙◌, arith}
use Rattle.std.specs.Char.{is_ascii_digit}
use Rattle.std.specs.Str.{all_ascii_digits}
use Rattle.std.proofs.lemmas.Fmt.{digits_decimal, digits_value-decimal, decimal_nonempty}
use Rattle.std.proofs.lemmas.Bool.{and_parts, and_from, leb-true, lt-ltb, ltb-true, ne_eqb, or_from, not-true, not_from_false}
use Rattle.mutator.specs.declared.Ask.{Ask}
use Rattle.mutator.specs.declared.number.Number.{Number}
use Rattle.mutator.specs.Numbers.{value}
use Rattle.mutator.specs.Table.{name, numbers, calls}
use Rattle.mutator.proofs.Listing.{found, most_small}
use Rattle.script.specs.Text.{spaced, call_text}
use Rattle.script.specs.Tokens.{blank, pieces, filled, tokens}
use Rattle.script.specs.Reading.{body}
use Rattle.script.specs.Spelling.{WriteAll, AllWithin, Fits, Spells, ReadsBack}
use Rattle.script.proofs.Runs.{Dense, filled_some, word_first}
use Rattle.script.proofs.Values.{own}
use Rattle.script.proofs.Naming.{named_passes}
use Rattle.script.proofs.Spelt.{reads_what_is_spelt, reads_lines}

-- bytes that can be seen: no blank and no carriage return
abbrev graphic : List ℕ → Bool
graphic [] = true
graphic (c ∷ cs) = ltb 32 c && graphic cs

graphic_digits : (ds : List ℕ) → all_ascii_digits ds ≡ true → graphic ds ≡ true
graphic_digits [] h = refl
graphic_digits (c ∷ cs) h =
    let p = and_parts (is_ascii_digit c) (all_ascii_digits cs) h in
    let q = and_parts (leb 48 c) (leb c 57) p.0 in
    and_from _ _ (lt-ltb 32 c (omega (arith, leb-true 48 c q.0))) (graphic_digits cs p.1)

graphic_decimal : (n : ℕ) → n < 2 ^ 64 → graphic (decimal n) ≡ true
graphic_decimal n h = graphic_digits (decimal n) (digits_decimal own n h)

dark : (c : ℕ) → ltb 32 c ≡ true → blank c ≡ false
dark c h = let l = ltb-true 32 c h in or_from _ _ (ne_eqb c 32 (λ e. omega arith)) (ne_eqb c 9 (λ e. omega arith))

dense_graphic : (w : List ℕ) → graphic w ≡ true → Dense w
dense_graphic [] g i l = absurd (omega arith)
dense_graphic (c ∷ cs) g zero l = dark c (and_parts (ltb 32 c) (graphic cs) g).0
dense_graphic (c ∷ cs) g (suc i) l = dense_graphic cs (and_parts (ltb 32 c) (graphic cs) g).1 i (omega arith)

abbrev Small : List ℕ → Type 0
Small [] = Unit {0}
Small (n ∷ ns) = (n < 2 ^ 64) × Small ns

pieces_spaced : (ns : List ℕ) → Small ns → pieces (spaced ns) ≡ [] ∷ map decimal ns
pieces_spaced [] s = refl
pieces_spaced (n ∷ ns) s = ap (λ (l : List (List ℕ)). [] ∷ l) (word_first (decimal n) (spaced ns) (map decimal ns) (dense_graphic (decimal n) (graphic_decimal n s.0)) (pieces_spaced ns s.1))

filled_decimals : (ns : List ℕ) → Small ns → filled (map decimal ns) ≡ map decimal ns
filled_decimals [] s = refl
filled_decimals (n ∷ ns) s = filled_some (decimal n) (map decimal ns) (decimal_nonempty n s.0) ∙ ap (λ (l : List (List ℕ)). decimal n ∷ l) (filled_decimals ns s.1)

decimals_written : (ns : List ℕ) → Small ns → WriteAll (map decimal ns) ns
decimals_written [] s = tt
decimals_written (n ∷ ns) s = (digits_decimal own n s.0, digits_value-decimal own n s.0, decimals_written ns s.1)

-- no carriage return, so nothing is taken from the end
abbrev plain : List ℕ → Bool
plain [] = true
plain (c ∷ cs) = not (eqb c 13) && plain cs

plain_append : (xs ys : List ℕ) → plain xs ≡ true → plain ys ≡ true → plain (xs ++ ys) ≡ true
plain_append [] ys p q = q
plain_append (c ∷ cs) ys p q = let h = and_parts (not (eqb c 13)) (plain cs) p in and_from _ _ h.0 (plain_append cs ys h.1 q)

plain_graphic : (xs : List ℕ) → graphic xs ≡ true → plain xs ≡ true
plain_graphic [] g = refl
plain_graphic (c ∷ cs) g =
    let p = and_parts (ltb 32 c) (graphic cs) g in
    let l = ltb-true 32 c p.0 in
    and_from _ _ (not_from_false _ (ne_eqb c 13 (λ e. omega arith))) (plain_graphic cs p.1)

plain_spaced : (ns : List ℕ) → Small ns → plain (spaced ns) ≡ true
plain_spaced [] s = refl
plain_spaced (n ∷ ns) s = plain_append (decimal n) (spaced ns) (plain_graphic (decimal n) (graphic_decimal n s.0)) (plain_spaced ns s.1)

body_plain : (xs : List ℕ) → plain xs ≡ true → body xs ≡ xs
body_plain [] p = refl
body_plain (c ∷ []) p = let e = not-true (eqb c 13) (and_parts (not (eqb c 13)) true p).0 in rw e
body_plain (c ∷ d ∷ ds) p = ap (λ (l : List ℕ). c ∷ l) (body_plain (d ∷ ds) (and_parts (not (eqb c 13)) (plain (d ∷ ds)) p).1)

-- each name of the table can be seen
abbrev visible : List ℕ → Bool
visible m = ltb 0 (length m) && graphic m

seen_named : (q : Ask) → (graphic (name q) ≡ true) × (0 < length (name q))
seen_named q =
    let t = found q in
    let p = and_parts (ltb 0 (length (name q))) (graphic (name q)) (named_passes visible (name q) calls t.make refl t.is) in
    (p.1, ltb-true 0 (length (name q)) p.0)

all_small : (ns : List Number) → AllWithin ns → Small (map value ns)
all_small [] w = tt
all_small (n ∷ ns) w = (omega (arith, w.0, most_small n), all_small ns w.1)

text_tokens : (m ns : List ℕ) → graphic m ≡ true → 0 < length m → Small ns → tokens (body (m ++ spaced ns)) ≡ m ∷ map decimal ns
text_tokens m ns g l s =
    ap tokens (body_plain (m ++ spaced ns) (plain_append m (spaced ns) (plain_graphic m g) (plain_spaced ns s)))
    ∙ ap filled (word_first m (spaced ns) (map decimal ns) (dense_graphic m g) (pieces_spaced ns s))
    ∙ filled_some m (map decimal ns) l ∙ ap (λ (t : List (List ℕ)). m ∷ t) (filled_decimals ns s)

spelt_back : (q : Ask) → Fits q → Spells (call_text q) q
spelt_back q w =
    let s = seen_named q in
    let small = all_small (numbers q) w in
    record {
      rest = map decimal (map value (numbers q));
      named = text_tokens (name q) (map value (numbers q)) s.0 s.1 small;
      written = decimals_written (map value (numbers q)) small;
      fits = w;
    }

pub reads_back : ReadsBack
reads_back q w = let s = spelt_back q w in ((reads_what_is_spelt (call_text q) q).1 s, (reads_lines (call_text q) q).1 s)
