-- What is said of the lines that were taken so far: one line more, and how the input ends.
use Rattle.std.proofs.Common.{◌≡◌, ℕ, ◌+◌, ◌<◌, List, [], ◌∷◌, ◌++◌, length, get_or, IfOk, IfSome, Ok, Err, Option, Result, sym, refl, ap, ◌∙◌, subst, arith}
use Rattle.std.proofs.lemmas.List.{length-append}
use Rattle.std.proofs.Math.Seq.{take-append_seam, get_or-append_seam}
use Rattle.script.specs.declared.error.LineError.{LineError}
use Rattle.script.specs.Reading.{bind}
use Rattle.driver.specs.declared.fault.Fault.{Fault}
use Rattle.std.specs.Io.BufRead.{first_line, DropsThrough}
use Rattle.std.specs.Io.KnownBytes.{IsAtEnd}
use Rattle.driver.specs.Reading.{Said, after, after_all, Stops, EndsBehind, TakesInput}
use Rattle.driver.proofs.InputLines.{Leaves, leaves_none, leaves_next, are_lines}

bind_ok : (r : Result Said LineError) → bind r (λ t. Ok t) ≡ r
bind_ok (Ok t) = refl
bind_ok (Err e) = refl

bind_bind : (r : Result Said LineError) (f g h : Said → Result Said LineError) → ((t : Said) → f t ≡ bind (g t) h) → bind r f ≡ bind (bind r g) h
bind_bind (Ok t) f g h same = same t
bind_bind (Err e) f g h same = refl

pub after_push : (s : Said) (ls : List (List ℕ)) (l : List ℕ) → after_all s (ls ++ l ∷ []) ≡ bind (after_all s ls) (λ t. after t l)
after_push s [] l = bind_ok (after s l)
after_push s (m ∷ ms) l =
    bind_bind (after s m) (λ t. after_all t (ms ++ l ∷ [])) (λ t. after_all t ms) (λ t. after t l) (λ t. after_push t ms l)

-- so many lines of the input were taken, and these bytes are left
pub record LinesTaken (bytes : Option (List ℕ)) (s : Said) (n : ℕ) (now : Option (List ℕ)) (t : Said) : Type 0 where
  pub lines : List (List ℕ)
  pub many : length lines ≡ n
  pub taken : after_all s lines ≡ Ok t
  pub leaves : Leaves bytes lines now

pub none_taken : (bytes : Option (List ℕ)) (s : Said) → LinesTaken bytes s 0 bytes s
none_taken bytes s = record { lines = []; many = refl; taken = refl; leaves = leaves_none bytes }

-- the next line of the input
abbrev pub Next : Option (List ℕ) → List ℕ → Option (List ℕ) → Type 0
Next old l new = IfSome old (λ xs. (0 < length xs) × (l ≡ first_line xs)) × DropsThrough old new 10

pub one_taken : (bytes old new : Option (List ℕ)) (s t u : Said) (n k : ℕ) (l : List ℕ) → LinesTaken bytes s n old t → k ≡ n + 1 → Next old l new → after t l ≡ Ok u → LinesTaken bytes s k new u
one_taken bytes old new s t u n k l T e x here =
    record {
      lines = T.lines ++ l ∷ [];
      many = length-append T.lines (l ∷ []) ∙ ap (λ j. j + 1) T.many ∙ sym e;
      taken = after_push s T.lines l ∙ ap (λ (r : Result Said LineError). bind r (λ v. after v l)) T.taken ∙ here;
      leaves = leaves_next bytes old new T.lines l T.leaves x.0 x.1;
    }

-- the input ends behind the lines that were taken
pub input_ends : (bytes now : Option (List ℕ)) (s t : Said) (n : ℕ) (input : Result (Unit {0}) Fault) → LinesTaken bytes s n now t → EndsBehind n input → IfOk input (λ _. IsAtEnd now) → TakesInput bytes s t input
input_ends bytes now s t n input T e w =
    record {
      lines = T.lines;
      end = Ok tt;
      input = input;
      takes = T.taken;
      ends = subst (λ k. EndsBehind k input) (sym T.many) e;
      is = refl;
      are = are_lines bytes now T.lines input T.leaves w;
    }

-- a line ends the reading, and leaves what was said
pub line_ends : (bytes old new : Option (List ℕ)) (s t u : Said) (n k : ℕ) (l : List ℕ) (f : Fault) → LinesTaken bytes s n old t → k ≡ n + 1 → Next old l new → Stops t k l f × (u ≡ t) → TakesInput bytes s u (Err f)
line_ends bytes old new s t u n k l f T e x p =
    let lines = T.lines ++ l ∷ [] in
    let many : k ≡ length T.lines + 1 = e ∙ ap (λ j. j + 1) (sym T.many) in
    let stops : Stops t (length T.lines + 1) (get_or lines (length T.lines) []) f =
    subst (λ (m : List ℕ). Stops t (length T.lines + 1) m f) (sym (get_or-append_seam T.lines l [] [])) (subst (λ j. Stops t j l f) many p.0) in
    record {
      lines = lines;
      end = Err f;
      input = Ok tt;
      takes = record {
        before = length T.lines;
        within = omega (arith, length-append T.lines (l ∷ []));
        taken = ap (after_all s) (take-append_seam T.lines (l ∷ [])) ∙ T.taken ∙ ap (λ (v : Said). Ok v) (sym p.1);
        stops = subst (λ (v : Said). Stops v (length T.lines + 1) (get_or lines (length T.lines) []) f) (sym p.1) stops;
      };
      ends = tt;
      is = refl;
      are = are_lines bytes new lines (Err f) (leaves_next bytes old new T.lines l T.leaves x.0 x.1) tt;
    }
