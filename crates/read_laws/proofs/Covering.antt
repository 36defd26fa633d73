-- The regions that were read are ones that a body may have.
use Rattle.std.proofs.Common.{◌≡◌, ℕ, zero, suc, ◌≤◌, ◌<◌, Bool, true, false, List, [], ◌∷◌, length, refl, ap, subst, ◌∙◌}
use Rattle.std.specs.Prelude.{◌&&◌, ◌||◌, nat_eq, nat_lt, nat_le, Option, Some, None, slice_get}
use Rattle.std.specs.List.{list_all, list_any}
use Rattle.std.proofs.lemmas.Bool.{ltb-true, lt-ltb, le-leb}
use Rattle.lemmas.proofs.Bools.{and_both, and_left, and_right, or_left, or_right}
use Rattle.lemmas.proofs.Lists.{any_at}
use Rattle.lemmas.proofs.Numbers.{same_number}
use Rattle.lemmas.proofs.Options.{none_some, some_same}
use Rattle.insn_set.specs.declared.form.Insn.{Insn}
use Rattle.program_model.specs.Neighbours.{neighbours}
use Rattle.program_model.specs.RegionRules as rule
use Rattle.program_model.specs.declared.body.Handler.{Handler}
use Rattle.program_model.specs.declared.body.Region.{Region}
use Rattle.program_model.specs.declared.program.Program.{Program}
use Rattle.code_read.specs.Marks.{is_rest, catches_at, is_handler}
use Rattle.code_read.specs.Order.{all_placed}
use Rattle.code_read.specs.Regions as read
use Rattle.code_read.specs.declared.sizes.Sizes.{Sizes}
use Rattle.read_laws.specs.Tables.{AreWithin}
use Rattle.read_laws.proofs.BodyLists.{item_of, all_items}
use Rattle.read_laws.proofs.Operands.{below_more}
use Rattle.read_laws.proofs.Standing.{handler_begins}
use Rattle.read_laws.proofs.Caught.{Right, AllRight}

-- ---- each ends before the one behind it begins

apart : (starts : List ℕ) (types from : ℕ) (rs : List Region) → AllRight starts types from rs → list_all rule.are_apart (neighbours rs) ≡ true
apart starts types from [] h = refl
apart starts types from (r ∷ []) h = refl
apart starts types from (r ∷ (s ∷ rs)) h = and_both (nat_le r.end s.first) (list_all rule.are_apart (neighbours (s ∷ rs))) (le-leb r.end s.first h.1.0.behind) (apart starts types r.end (s ∷ rs) h.1)

right_at : (starts : List ℕ) (types from : ℕ) (rs : List Region) → AllRight starts types from rs → (j : ℕ) (r : Region) → slice_get rs j ≡ Some r → (f : ℕ) × Right starts types f r
right_at starts types from [] h j r e = none_some r e
right_at starts types from (s ∷ rs) h zero r e = (from, subst (Right starts types from) (some_same s r e) h.0)
right_at starts types from (s ∷ rs) h (suc j) r e = right_at starts types s.end rs h.1 j r e

module _ (p : Program) (sizes : Sizes) (is : AreWithin p sizes) (insns : List Insn) (regions : List Region) (starts : List ℕ)
    (as_many : length starts ≡ length insns) (placed : all_placed insns regions ≡ true) (right : AllRight starts sizes.types 0 regions) where
  -- ---- where a region goes on

  begins : (k : ℕ) → nat_lt k (length starts) ≡ true → is_handler regions k ≡ true → rule.may_begin (slice_get insns k) ≡ true
  begins k lt h = handler_begins insns regions placed k (subst (λ (n : ℕ). k < n) as_many (ltb-true k (length starts) lt)) h

  has_handler : (j : ℕ) (r : Region) → slice_get regions j ≡ Some r → (m : ℕ) (h : Handler) → slice_get r.handlers m ≡ Some h → is_handler regions h.position ≡ true
  has_handler j r e m h d = any_at (catches_at h.position) regions j r e (or_left (list_any (λ (g : Handler). nat_eq g.position h.position) r.handlers) (is_rest r.rest h.position)
      (any_at (λ (g : Handler). nat_eq g.position h.position) r.handlers m h d (same_number h.position)))

  has_rest : (j : ℕ) (r : Region) → slice_get regions j ≡ Some r → (k : ℕ) → r.rest ≡ Some k → is_handler regions k ≡ true
  has_rest j r e k d = any_at (catches_at k) regions j r e (or_right (list_any (λ (g : Handler). nat_eq g.position k) r.handlers) (is_rest r.rest k)
      (ap (λ (o : Option ℕ). is_rest o k) d ∙ same_number k))

  handlers_fit : (j : ℕ) (r : Region) → slice_get regions j ≡ Some r → list_all (read.handler_inside sizes.types (length starts)) r.handlers ≡ true → list_all (rule.handler_fits p insns) r.handlers ≡ true
  handlers_fit j r e inside = all_items (rule.handler_fits p insns) r.handlers (λ m h d.
      let one : (nat_lt h.kind sizes.types && nat_lt h.position (length starts)) ≡ true = item_of (read.handler_inside sizes.types (length starts)) r.handlers inside m h d in
      and_both (nat_lt h.kind (length p.types)) (rule.may_begin (slice_get insns h.position))
      (below_more h.kind sizes.types (length p.types) is.types (and_left (nat_lt h.kind sizes.types) (nat_lt h.position (length starts)) one))
      (begins h.position (and_right (nat_lt h.kind sizes.types) (nat_lt h.position (length starts)) one) (has_handler j r e m h d)))

  rest_fits : (o : Option ℕ) → read.rest_inside (length starts) o ≡ true → ((k : ℕ) → o ≡ Some k → is_handler regions k ≡ true) → rule.rest_fits insns o ≡ true
  rest_fits None inside h = refl
  rest_fits (Some k) inside h = begins k inside (h k refl)

  region_fits : (j : ℕ) (r : Region) → slice_get regions j ≡ Some r → rule.region_fits p insns r ≡ true
  region_fits j r e =
      let one : Right starts sizes.types (right_at starts sizes.types 0 regions right j r e).0 r = (right_at starts sizes.types 0 regions right j r e).1 in
      and_both (nat_lt r.first r.end && nat_le r.end (length insns)) (rule.catches r && (list_all (rule.handler_fits p insns) r.handlers && rule.rest_fits insns r.rest))
      (and_both (nat_lt r.first r.end) (nat_le r.end (length insns)) (lt-ltb r.first r.end one.covers) (le-leb r.end (length insns) (subst (λ (n : ℕ). r.end ≤ n) as_many one.ends)))
      (and_both (rule.catches r) (list_all (rule.handler_fits p insns) r.handlers && rule.rest_fits insns r.rest) one.catches
      (and_both (list_all (rule.handler_fits p insns) r.handlers) (rule.rest_fits insns r.rest) (handlers_fit j r e one.handlers) (rest_fits r.rest one.rest (has_rest j r e))))

  pub regions_fit : rule.regions_fit p insns regions ≡ true
  unfolding rule.regions_fit
  regions_fit = and_both (list_all (rule.region_fits p insns) regions) (list_all rule.are_apart (neighbours regions)) (all_items (rule.region_fits p insns) regions region_fits) (apart starts sizes.types 0 regions right)
