-- What a trace keeps of the indices that were touched.
use Rattle.std.specs.Prelude.{◌≡◌, ℕ, [], ◌∷◌, ◌++◌, Some, None, Option, Vec, vec_items, IsSomeAnd}
use Rattle.std.specs.declared.alloc.Global.{Global}

-- one index more; and once there was no memory for one, the trace is cut there and stays as it is
abbrev pub Noted : ℕ →
    Option (Vec ℕ Global) → Option (Vec ℕ Global) → Option (Vec ℕ Global) → Option (Vec ℕ Global) → Type 0
Noted i (Some old) cut (Some new) cut' = (vec_items new ≡ vec_items old ++ (i ∷ [])) × (cut' ≡ cut)
Noted i (Some old) cut None cut' = IsSomeAnd cut' (λ t. vec_items t ≡ vec_items old)
Noted i None cut (Some new) cut' = ⊥
Noted i None cut None cut' = cut' ≡ cut
