-- Whether a caller has room with a new body.
use Rattle.std.proofs.Common.{◌≡◌, ℕ, ◌+◌, ◌<◌, ◌≤◌, Bool, true, false, List, [], ◌∷◌, refl, sym, ap, ◌∙◌, subst, arith, ◌⊎◌, inl, inr, Option, Some, None}
use Rattle.std.specs.Prelude.{nat_le, ◌&&◌}
use Rattle.std.proofs.lemmas.Bool.{true≢false}
use Rattle.std.proofs.lemmas.Bool.Decides.{nat_tests}
use Rattle.program_model.specs.declared.body.Body.{Body}
use Rattle.program_model.specs.declared.pass.Renumber.{Renumber}
use Rattle.relax.specs.declared.layout.Layout.{Layout}
use Rattle.relax.specs.declared.fault.LayFault.{LayFault}
use Rattle.relax.specs.declared.fault.LayFault.TheVariants as fault
use Rattle.relax.specs.Layouts.{IsLaidOut, IsLayFault}
use Rattle.splice.specs.declared.callee.Callee.{Callee}
use Rattle.splice.specs.declared.spliced.Spliced.{Spliced}
use Rattle.inline_calls.specs.declared.site.Caller.{Caller}
use Rattle.inline_calls.specs.declared.caller.Inliner.{Inliner}
use Rattle.inline_calls.specs.Rooms.{cells_with, fits_lists, IsShort, IsLong, IsFar, IsOver, IsCrowded, IsTypedWith, IsIllTypedWith, HasRoom, LacksRoom, LacksCells, LacksUnits, LacksTyping, spliced_by, Judges}

above : (n m : ℕ) → nat_le n m ≡ false → m < n
above n m e = grind (arith, nat_tests)

within : (n m : ℕ) → nat_le n m ≡ true → n ≤ m
within n m e = grind (arith, nat_tests)

both : (a b : Bool) → (a && b) ≡ true → (a ≡ true) × (b ≡ true)
both true true e = (refl, refl)
both true false e = absurd (true≢false (sym e))
both false b e = absurd (true≢false (sym e))

one_of : (a b : Bool) → (a && b) ≡ false → (a ≡ false) ⊎ (b ≡ false)
one_of true b e = inr e
one_of false b e = inl refl

module _ (numbers : Renumber) (b : Body) (layout : Layout) (is : IsLaidOut numbers b layout) (t : Bool) (has : t ≡ (nat_le layout.size 32000 && fits_lists numbers b layout)) where
  pub is_short_by : t ≡ true → IsShort numbers b
  is_short_by e =
      let h : (nat_le layout.size 32000 ≡ true) × (fits_lists numbers b layout ≡ true) = both (nat_le layout.size 32000) (fits_lists numbers b layout) (sym has ∙ e) in
      record { layout = layout; is = is; units = within layout.size 32000 h.0; lists = h.1 }

  long_by : (nat_le layout.size 32000 ≡ false) ⊎ (fits_lists numbers b layout ≡ false) → IsLong numbers b
  long_by (inl e) = IsOver layout is (above layout.size 32000 e)
  long_by (inr e) = IsCrowded layout is e

  pub is_long_by : t ≡ false → IsLong numbers b
  is_long_by e = long_by (one_of (nat_le layout.size 32000) (fits_lists numbers b layout) (sym has ∙ e))

-- a branch goes too far
pub far_by : (numbers : Renumber) (b : Body) (x : LayFault) (n : ℕ) → x ≡ fault.FarBranch n → IsLayFault numbers b x → IsLong numbers b
far_by numbers b x n e is = IsFar n (subst (λ (y : LayFault). IsLayFault numbers b y) e is)

module _ (i : Inliner) (c : Caller) (cells : ℕ) (b : Body) where
  pub lacks_cells : (n : ℕ) (t : Bool) → n ≡ cells_with cells c.body.now b → t ≡ nat_le n 67108864 → t ≡ false → LacksRoom i c cells b
  lacks_cells n t is fits e = LacksCells (subst (λ (k : ℕ). 67108864 < k) is (above n 67108864 (sym fits ∙ e)))

  pub has_room_by : (n : ℕ) (t : Bool) → n ≡ cells_with cells c.body.now b → t ≡ nat_le n 67108864 → t ≡ true → IsShort i.numbers b → IsTypedWith i.verifier c.at b → HasRoom i c cells b
  has_room_by n t is fits e short typed = record { fits = subst (λ (k : ℕ). k ≤ 67108864) is (within n 67108864 (sym fits ∙ e)); short = short; typed = typed }

module _ (i : Inliner) (c : Caller) (cells : ℕ) (chosen : List (Option Callee)) (s : Spliced) (is : s ≡ spliced_by i c chosen) where
  pub judges_some : HasRoom i c cells s.body → Judges i c cells chosen (Some s)
  judges_some room = (is, subst (λ (t : Spliced). HasRoom i c cells t.body) is room)

  pub judges_none : LacksRoom i c cells s.body → Judges i c cells chosen None
  judges_none lacks = subst (λ (t : Spliced). LacksRoom i c cells t.body) is lacks
