-- A script, answer by answer.
use Rattle.std.proofs.Common.{◌≡◌, ℕ, ◌+◌, ◌*◌, ◌<◌, ◌≤◌, Bool, true, false, List, [], ◌∷◌, ◌++◌, map, length, take, set, sym, refl, ap, ◌∙◌, subst, ap₂, arith, drop-set-lt}
use Rattle.std.proofs.lemmas.List.{length-append, take_more_set}
use Rattle.mutator.specs.declared.Ask.{Ask}
use Rattle.mutator.specs.declared.Told.{Told}
use Rattle.world.specs.World.{World, blank}
use Rattle.world.specs.Alike.{Alike}
use Rattle.world.specs.Laws.{Valid}
use Rattle.world.specs.Room.{room}
use Rattle.mutator.specs.Table.{entry, numbers}
use Rattle.mutator.specs.TableLaws.{all_there}
use Rattle.mutator.specs.Script.{Answer, Outcome, told, answer, answers}
use Rattle.mutator.specs.Refusals.{said, answer_of}
use Rattle.mutator.proofs.Roomless.{answered as answered_roomless}
use Rattle.mutator.proofs.Calls.{agree}
use Rattle.world.proofs.Equivalence.{alike_self, alike_through}
use Rattle.world.proofs.Changes.{blank_valid}
use Rattle.layout.specs.Cells.{base}
use Rattle.layout.proofs.Worlds.{valid_of}
use Rattle.store.specs.Ready.{Ready}
use Rattle.heap.specs.Says.{Does, Calls}
use Rattle.heap.specs.Playing.{Stands, standing, Turns, world_after, answered, Bounded, Given, Played, PlaysAs, PlaySays}
use Rattle.heap.specs.declared.playing.Turn.{Turn}

-- without room the blank world stays as it is, and calls are answered as the table says
pub blank_does : (n : ℕ) (q : Ask) (a : Answer) → a ≡ (answer 0 (blank n) q).told → Does 0 q (blank n) (blank n) a
blank_does n q a e = record { told = e; after = subst (λ (w : World). Alike w (blank n)) (sym (ap (λ (o : Outcome). o.after) (answered_roomless n q))) (alike_self (blank n) (blank_valid n)) }

pub roomless_there : (n : ℕ) (q : Ask) (a : Answer) → all_there n (numbers q) ≡ true → a ≡ said (entry q).empty → a ≡ (answer 0 (blank n) q).told
roomless_there n q a h e = e ∙ sym (ap (λ (o : Outcome). o.told) (answered_roomless n q) ∙ rw h)

pub roomless_not : (n : ℕ) (q : Ask) → all_there n (numbers q) ≡ false → told 2 0 ≡ (answer 0 (blank n) q).told
roomless_not n q h = sym (ap (λ (o : Outcome). o.told) (answered_roomless n q) ∙ rw h)

-- a turn on a manager that works, and where there are too few words
pub turns_ready : (q : Ask) (slots : ℕ) (row row' : List ℕ) (t : Turn) → Ready slots row 0 → Calls q slots row row' (answer_of t.told) → t.touched ≤ 9 * length row + 6 → Turns true q slots row row' t
turns_ready q slots row row' t r c l =
    record {
      stands = record { ok = c.stays; room = record { fits = omega (arith, r.room.fits, c.long); short = omega (arith, r.room.short, c.long); few = r.room.few } };
      long = c.long;
      does = c.does;
      touched = l;
    }

pub turns_roomless : (q : Ask) (slots : ℕ) (row : List ℕ) (t : Turn) → length row < base slots → answer_of t.told ≡ (answer 0 (blank slots) q).told → t.touched ≡ 0 → Turns false q slots row row t
turns_roomless q slots row t s e l =
    let k : 0 ≡ room (length row) slots = omega (arith, s) in
    record {
      stands = s;
      long = refl;
      does = subst (λ (n : ℕ). Does n q (blank slots) (blank slots) (answer_of t.told)) k (blank_does slots q (answer_of t.told) e);
      touched = omega (arith, l);
    }

-- calls one after the other: none, and one more
after_more : (cap : ℕ) (w : World) (qs : List Ask) (q : Ask) → world_after cap w (qs ++ q ∷ []) ≡ (answer cap (world_after cap w qs) q).after
after_more cap w [] q = refl
after_more cap w (p ∷ qs) q = after_more cap (answer cap w p).after qs q

answers_more : (cap : ℕ) (w : World) (qs : List Ask) (q : Ask) → answers cap w (qs ++ q ∷ []) ≡ answers cap w qs ++ (answer cap (world_after cap w qs) q).told ∷ []
answers_more cap w [] q = refl
answers_more cap w (p ∷ qs) q = ap (λ (as₁ : List Answer). (answer cap w p).told ∷ as₁) (answers_more cap (answer cap w p).after qs q)

answered_more : (ts : List Turn) (t : Turn) → answered (ts ++ t ∷ []) ≡ answered ts ++ answer_of t.told ∷ []
answered_more [] t = refl
answered_more (u ∷ ts) t = ap (λ (as₁ : List Answer). answer_of u.told ∷ as₁) (answered_more ts t)

bounded_more : (n : ℕ) (ts : List Turn) (t : Turn) → Bounded n ts → t.touched ≤ 9 * n + 6 → Bounded n (ts ++ t ∷ [])
bounded_more n [] t b l = (l, tt)
bounded_more n (u ∷ ts) t b l = (b.0, bounded_more n ts t b.1 l)

given_more : {X : Type 0} (g : Turn → X → Type 0) (ts : List Turn) (xs : List X) (t : Turn) (x : X) → Given g ts xs → g t x → Given g (ts ++ t ∷ []) (xs ++ x ∷ [])
given_more g [] [] t x h k = (k, tt)
given_more g [] (y ∷ ys) t x h k = absurd h
given_more g (u ∷ ts) [] t x h k = absurd h
given_more g (u ∷ ts) (y ∷ ys) t x h k = (h.0, given_more g ts ys t x h.1 k)

valid_standing : (ready : Bool) (slots : ℕ) (row : List ℕ) → Valid (standing ready slots row)
valid_standing true slots row = valid_of slots row
valid_standing false slots row = blank_valid slots

pub played_none : {X : Type 0} (g : Turn → X → Type 0) (n : ℕ) (ready : Bool) (slots : ℕ) (row : List ℕ) (o : List X) → Stands ready slots row → Played g n ready [] slots row row o o
played_none g n ready slots row o s =
    record {
      turns = [];
      stands = s;
      long = refl;
      alike = alike_self (standing ready slots row) (valid_standing ready slots row);
      told = refl;
      bounded = tt;
      given = tt;
      rest = refl;
    }

pub played_more : {X : Type 0} (g : Turn → X → Type 0) (n : ℕ) (ready : Bool) (qs : List Ask) (q : Ask) (slots : ℕ) (row row1 row2 : List ℕ) (o o' : List X) (t : Turn) (x : X) (i : ℕ) → i ≡ length qs → i < n → i < length o' → Played g n ready qs slots row row1 o o' → Turns ready q slots row1 row2 t → g t x → Played g n ready (qs ++ q ∷ []) slots row row2 o (set o' i x)
played_more g n ready qs q slots row row1 row2 o o' t x i e l m p h k =
    let cap = room (length row) slots in
    let w = world_after cap (standing ready slots row) qs in
    let d : Does cap q (standing ready slots row1) (standing ready slots row2) (answer_of t.told) = subst (λ (j : ℕ). Does (room j slots) q (standing ready slots row1) (standing ready slots row2) (answer_of t.told)) p.long h.does in
    let a = agree cap w (standing ready slots row1) q p.alike in
    let given' = given_more g p.turns (take i o') t x (subst (λ (j : ℕ). Given g p.turns (take j o')) (sym e) p.given) k in
    let s : length (qs ++ q ∷ []) ≡ i + 1 = length-append qs (q ∷ []) ∙ ap (λ (j : ℕ). j + 1) (sym e) in
    record {
      turns = p.turns ++ t ∷ [];
      stands = h.stands;
      long = h.long ∙ p.long;
      alike = rw (after_more cap (standing ready slots row) qs q) (alike_through _ _ _ a.after d.after);
      told = answered_more p.turns t ∙ ap₂ (λ (u v : List Answer). u ++ v) p.told (ap (λ (b : Answer). b ∷ []) (d.told ∙ sym a.said)) ∙ sym (answers_more cap (standing ready slots row) qs q);
      bounded = bounded_more (length row) p.turns t p.bounded (omega (arith, h.touched, p.long));
      given = subst (λ (xs : List _). Given g (p.turns ++ t ∷ []) xs) (sym (take_more_set o' i x m) ∙ ap (λ (j : ℕ). take j (set o' i x)) (sym s)) given';
      rest = drop-set-lt n o' i x l ∙ p.rest;
    }

-- on lent words it begins with the blank world
pub plays_as : {X : Type 0} (g : Turn → X → Type 0) (n : ℕ) (ready : Bool) (qs : List Ask) (slots : ℕ) (row row' : List ℕ) (o o' : List X) → length row ≡ n → standing ready slots row ≡ blank slots → Played g (length qs) ready qs slots row row' o o' → PlaysAs g n slots qs o o'
plays_as g n ready qs slots row row' o o' l b p =
    record {
      turns = p.turns;
      told = p.told ∙ ap₂ (λ (j : ℕ) (w : World). answers (room j slots) w qs) l b;
      bounded = subst (λ (j : ℕ). Bounded j p.turns) l p.bounded;
      given = p.given;
      rest = p.rest;
    }

-- the answers alone
told_given : (ts : List Turn) (xs : List Told) → Given (λ t x. x ≡ t.told) ts xs → map answer_of xs ≡ answered ts
told_given [] [] h = refl
told_given [] (x ∷ xs) h = absurd h
told_given (t ∷ ts) [] h = absurd h
told_given (t ∷ ts) (x ∷ xs) h = ap₂ (λ (a : Answer) (as₁ : List Answer). a ∷ as₁) (ap answer_of h.0) (told_given ts xs h.1)

pub play_says : (n slots : ℕ) (qs : List Ask) (o o' : List Told) → PlaysAs (λ t x. x ≡ t.told) n slots qs o o' → PlaySays n slots qs o o'
play_says n slots qs o o' p = (told_given p.turns (take (length qs) o') p.given ∙ p.told, p.rest)
