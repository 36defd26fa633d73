-- What interfaces stand on: a class that is refused for it has that fault in the file.
use Rattle.std.proofs.Common.{◌≡◌, ◌<◌, ◌⊎◌, inl, inr, ℕ, zero, suc, ◌+◌, ◌*◌, Bool, true, false, not, eqb, List, [], ◌∷◌, length, Some, refl, sym, ap, subst, ◌∙◌, arith}
use Rattle.std.specs.Prelude.{◌&&◌, slice_get}
use Rattle.std.specs.List.{list_all, list_any}
use Rattle.std.proofs.lemmas.Bool.{eqb-true}
use Rattle.lemmas.proofs.Bools.{and_parts, or_cases, neither_of, not_true, not_false}
use Rattle.lemmas.proofs.Lists.{got_short}
use Rattle.dex_base.specs.Decides.{Entries}
use Rattle.program_model.specs.InterfaceRules.{is_plain_class, defines_so, defines_plain, stands_free}
use Rattle.program_model.specs.declared.program.Class.{Class}
use Rattle.program_model.specs.declared.program.Program.{Program}
use Rattle.dex_pools.specs.declared.header.Extent.{Extent}
use Rattle.dex_pools.specs.declared.scalar.TableSizes.{TableSizes}
use Rattle.dex_pools.specs.Spelled.{IsExtent, AreParameters}
use Rattle.dex_defs.specs.ClassDefs.{Def, IsClass}
use Rattle.dex_defs.specs.Parts as parts
use Rattle.dex_defs.specs.Places.{HasDef}
use Rattle.dex_defs.specs.ClassFaults.{HasFault, IsPlainType, has_bit, BadRoot}
use Rattle.dex_defs.specs.ClassFaults as faults
use Rattle.dex_read.specs.declared.fault.DexFault.TheVariants as dex
use Rattle.dex_read.specs.Standing.{each_stands, standing_at}
use Rattle.refused_law.specs.Just.{IsJust}
use Rattle.refused_law.proofs.Defs.{and_none, FailsTest, one_fails, half_there}
use Rattle.refused_law.proofs.Failing.{Fails, sound, unless, each_at}
use Rattle.refused_law.proofs.Tables.{entry_at}

-- the first of a list that passes a test
record PassesTest (test : Class → Bool) (cs : List Class) : Type 0 where
  place : ℕ
  c : Class
  there : slice_get cs place ≡ Some c
  passes : test c ≡ true

one_passes : (test : Class → Bool) (cs : List Class) → list_any test cs ≡ true → PassesTest test cs
one_passes test [] h = absurd cc
one_passes test (c ∷ cs) h = by_first (or_cases (test c) (list_any test cs) h) (one_passes test cs)
  where
    by_first : (test c ≡ true) ⊎ (list_any test cs ≡ true) → (list_any test cs ≡ true → PassesTest test cs) → PassesTest test (c ∷ cs)
    by_first (inl e) rest = record { place = 0; c = c; there = refl; passes = e }
    by_first (inr e) rest = let r = rest e in record { place = suc r.place; c = r.c; there = r.there; passes = r.passes }

module _ (bytes : List ℕ) (q : Program) (sizes : TableSizes) (table : Extent) (stands : IsExtent bytes 96 32 table) (classes : Entries table.size (λ i c. IsClass bytes q sizes (table.offset + 32 * i) c) q.classes) where
  class_is : (k : ℕ) (c : Class) → slice_get q.classes k ≡ Some c → IsClass bytes q sizes (table.offset + 32 * k) c
  class_is k c there = each_at (λ i c. IsClass bytes q sizes (table.offset + 32 * i) c) q.classes k c classes.1 there

  has_def : (k : ℕ) (c : Class) (there : slice_get q.classes k ≡ Some c) → HasDef bytes k (class_is k c there).def
  has_def k c there = record {
    at = table.offset + 32 * k;
    stands = entry_at bytes 96 32 table stands k (let short = got_short q.classes k c there in omega (arith, short, classes.0));
    is = (class_is k c there).is_def;
  }

  bit_same : (k : ℕ) (c : Class) (there : slice_get q.classes k ≡ Some c) → is_plain_class c ≡ not (has_bit (class_is k c there).def.flags 512)
  bit_same k c there = ap (λ (bits : ℕ). not (has_bit bits 512)) (class_is k c there).flags

  plain_type : (kind : ℕ) → defines_plain q kind ≡ true → IsPlainType bytes kind
  plain_type kind h =
      let a = one_passes (defines_so kind) q.classes h in
      let both = and_parts (eqb a.c.name kind) (is_plain_class a.c) a.passes in
      let is = class_is a.place a.c a.there in
      record {
        class = a.place;
        def = is.def;
        has = has_def a.place a.c a.there;
        defines = sym is.name ∙ eqb-true a.c.name kind both.0;
        plain = not_true (has_bit is.def.flags 512) (sym (bit_same a.place a.c a.there) ∙ both.1);
      }

  module _ (k : ℕ) (c : Class) (there : slice_get q.classes k ≡ Some c) (interface : is_plain_class c ≡ false) where
    abbrev def : Def
    def = (class_is k c there).def

    bit : has_bit def.flags 512 ≡ true
    bit = not_false (has_bit def.flags 512) (sym (bit_same k c there) ∙ interface)

    above_bad : not (defines_plain q c.superclass) ≡ false → HasFault bytes (parts.Root k)
    above_bad h = BadRoot (faults.OnPlain k def (has_def k c there) bit (subst (IsPlainType bytes) (class_is k c there).superclass (plain_type c.superclass (not_false (defines_plain q c.superclass) h))) refl)

    listed_bad : (offset : ℕ) (kinds : List ℕ) → offset ≡ def.interfaces → AreParameters bytes (length q.types) offset kinds → FailsTest (λ kind. not (defines_plain q kind)) kinds → HasFault bytes (parts.Root k)
    listed_bad zero kinds same are f = absurd (none_there kinds are f.there)
      where
        none_there : (xs : List ℕ) → xs ≡ [] → slice_get xs f.place ≡ Some f.x → ⊥
        none_there [] e g = absurd cc
        none_there (y ∷ ys) e g = absurd cc
    listed_bad (suc j) kinds same are f =
        let half = half_there bytes (suc j + 4) (length q.types) kinds f.place f.x are.entries.1 f.there in
        BadRoot (faults.ListsPlain k (suc j) f.place f.x (length kinds) def (has_def k c there) bit ((let some : 0 < def.interfaces = omega (arith, same) in some), same) are.count (got_short kinds f.place f.x f.there) half.is
        (plain_type f.x (not_false (defines_plain q f.x) f.fails)) refl)

    interface_bad : (not (defines_plain q c.superclass) && list_all (λ kind. not (defines_plain q kind)) c.interfaces) ≡ false → HasFault bytes (parts.Root k)
    interface_bad h = elim (and_none (not (defines_plain q c.superclass)) (list_all (λ kind. not (defines_plain q kind)) c.interfaces) h) [
      | inl e ↦ above_bad e
      | inr e ↦ listed_bad def.interfaces c.interfaces refl (class_is k c there).interfaces (one_fails (λ kind. not (defines_plain q kind)) c.interfaces e)
    ]

  refused : (k : ℕ) (c : Class) → slice_get q.classes k ≡ Some c → stands_free q c ≡ false → HasFault bytes (parts.Root k)
  refused k c there h =
      let e = neither_of (is_plain_class c) (not (defines_plain q c.superclass) && list_all (λ kind. not (defines_plain q kind)) c.interfaces) h in
      interface_bad k c there e.0 e.1

  each_fails : (k : ℕ) (cs : List Class) → ((i : ℕ) → slice_get q.classes (k + i) ≡ slice_get cs i) → Fails (IsJust bytes) (each_stands (stands_free q) k cs)
  each_fails k [] same = sound tt
  each_fails k (c ∷ cs) same =
      let here : slice_get q.classes k ≡ Some c = (let at : k ≡ k + 0 = omega arith in ap (slice_get q.classes) at ∙ same 0) in
      unless (dex.Root k) (λ none. refused k c here none) (λ _. each_fails (suc k) cs (λ i. (let at : suc k + i ≡ k + suc i = omega arith in ap (slice_get q.classes) at ∙ same (suc i))))

  pub fails_standing : Fails (IsJust bytes) (standing_at q)
  unfolding standing_at
  fails_standing = each_fails 0 q.classes (λ i. (let at : 0 + i ≡ i = omega arith in ap (slice_get q.classes) at))
