-- How often a value is locked, by numbers and by names.
use Rattle.std.proofs.Common.{◌≡◌, ℕ, zero, suc, Bool, List, [], ◌∷◌, cond, nat_eq, ap, refl, sym, ◌∙◌}
use Rattle.std.specs.Prelude.{Option, Some, None, slice_get}
use Rattle.std.specs.Map.{lookup}
use Rattle.std.specs.Option.{unwrap_or}
use Rattle.dalvik_defs.specs.State.{same_value}
use Rattle.dalvik_state.specs.declared.datum.Datum.{Datum}
use Rattle.dalvik_state.specs.Frames.{same_in}
use Rattle.dalvik_state.specs.Views.{AreFineLocks, IsFine, Names, TellsApart, lock_in, value_of}
use Rattle.dalvik_state.proofs.Sameness.{same_named}

fewer : (n : Names) (size : ℕ) (e : Datum × ℕ) (es : List (Datum × ℕ)) → AreFineLocks n size (e ∷ es) → AreFineLocks n size es
fewer n size e es h = record { at = λ i x f. h.at (suc i) x f }

module _ (n : Names) (size : ℕ) (apart : TellsApart n) (d : Datum) (fine : IsFine n size d) where
  found : (es : List (Datum × ℕ)) → AreFineLocks n size es → lookup (λ (k : Datum). same_value (value_of n k) (value_of n d)) es ≡ lookup (λ (k : Datum). same_in k d) es
  found [] h = refl
  found (e ∷ es) h = λ i. cond (same_named n size e.0 d apart (h.at 0 e refl) fine i) (Some e.1) (found es (fewer n size e es h) i)

  -- the count of a value that is fine, among fine ones
  pub lock_named : (es : List (Datum × ℕ)) → AreFineLocks n size es → lock_in n es (value_of n d) ≡ unwrap_or (lookup (λ (k : Datum). same_in k d) es) 0
  lock_named es h = ap (λ (o : Option ℕ). unwrap_or o 0) (found es h)
