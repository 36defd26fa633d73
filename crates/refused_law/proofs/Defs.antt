-- A fault of a class_def, of its list of interfaces and of its types that is answered stands there.
use Rattle.std.proofs.Common.{◌≡◌, ◌≤◌, ◌<◌, ◌^◌, ◌⊎◌, inl, inr, ℕ, zero, suc, ◌+◌, ◌*◌, Bool, true, false, not, ltb, eqb, List, [], ◌∷◌, length, min, Some, refl, sym, subst, ◌∙◌, arith, true≢false}
use Rattle.std.specs.Prelude.{◌&&◌, slice_get, codes}
use Rattle.std.specs.Cmp.Lexicographic.{bytes_decides}
use Rattle.std.specs.List.{list_all}
use Rattle.std.proofs.Math.Nat.{min-eq_left}
use Rattle.std.proofs.lemmas.Bool.{ltb-false, eqb-true, eq-eqb}
use Rattle.lemmas.proofs.Bools.{neither_of, not_false}
use Rattle.lemmas.proofs.Lists.{got_short}
use Rattle.dex_base.specs.Decides.{Each}
use Rattle.program_model.specs.Texts.{type_text, text_or_none, letter_of}
use Rattle.program_model.specs.MemberRules.{is_object}
use Rattle.program_model.specs.declared.program.Program.{Program}
use Rattle.dex_pools.specs.declared.fault.PoolFault.TheVariants as pool
use Rattle.dex_pools.specs.declared.header.Extents.{Extents}
use Rattle.dex_pools.specs.Spelled.{AreExtents, IsHalfIndex, AreParameters}
use Rattle.dex_defs.specs.ClassDefs.{none}
use Rattle.dex_defs.specs.Parts.{IndexOf, IndexOrNone}
use Rattle.dex_defs.specs.Parts as parts
use Rattle.dex_defs.specs.Places.{IsEntryAt, HasDef}
use Rattle.dex_defs.specs.Placed.{IsPlaced, HasSize, OfClass, ClassType, Superclass, Source}
use Rattle.dex_defs.specs.Placed as placed
use Rattle.dex_defs.specs.Faults.{HasTypeText, HasLetter}
use Rattle.dex_defs.specs.ClassFaults.{HasFault, InRoots, BadPart, BadRoot}
use Rattle.dex_defs.specs.ClassFaults as faults
use Rattle.dex_read.specs.declared.class_defs.ClassDef.{ClassDef}
use Rattle.dex_read.specs.declared.fault.DexFault.{DexFault}
use Rattle.dex_read.specs.declared.fault.DexFault.TheVariants as dex
use Rattle.dex_read.specs.Classes.{index_at, def_at, interfaces_at, is_class_type, root_at}
use Rattle.dex_read.specs.Tables.{sizes_in}
use Rattle.dex_read.specs.Word.{word_at}
use Rattle.dex_read.specs.Faults.{of_pool}
use Rattle.file_laws.specs.Class.{def_of, IsReadDef}
use Rattle.file_laws.proofs.Words.{finds_word}
use Rattle.read_laws.proofs.Bounds.{AreBytes, word_below}
use Rattle.refused_law.specs.Just.{IsJust}
use Rattle.refused_law.proofs.Failing.{Fails, sound, unless, fails_either, fails_next, fails_lifted, fails_more, each_at}
use Rattle.refused_law.proofs.Headers.{fails_word}
use Rattle.refused_law.proofs.Ids.{fails_list, type_has, type_there}
use Rattle.refused_law.proofs.Tables.{AreStrings, AreTypes}
use Rattle.refused_law.proofs.Whole.{just_pool}

-- the strings and types of a program stand in the file
pub record HasTables (bytes : List ℕ) (p : Program) : Type 0 where
  pub t : Extents
  pub stand : AreExtents bytes t
  pub strings : AreStrings bytes t stand p.strings
  pub types : AreTypes bytes t stand p.strings strings p.types

-- a class_def stands there, whole
pub record IsClassAt (bytes : List ℕ) (place at : ℕ) : Type 0 where
  pub stands : IsEntryAt bytes 96 32 place at
  pub inside : at + 32 ≤ length bytes

-- a size of 32 bits is its own least with the greatest
pub same_length : (n size : ℕ) → n ≡ size → size < 2 ^ 32 → size ≡ min n 4294967295
same_length n size e less = sym e ∙ sym (min-eq_left (omega (arith, e, less)))

pub and_none : (a b : Bool) → (a && b) ≡ false → (a ≡ false) ⊎ (b ≡ false)
and_none true b h = inr h
and_none false b h = inl refl

-- the entry of this number of a list of types
pub half_there : (bytes : List ℕ) (base size : ℕ) (kinds : List ℕ) (i kind : ℕ) → Each (λ i n. IsHalfIndex bytes (base + 2 * i) size n) 0 kinds → slice_get kinds i ≡ Some kind → IsHalfIndex bytes (base + 2 * i) size kind
half_there bytes base size kinds i kind each there = each_at (λ i n. IsHalfIndex bytes (base + 2 * i) size n) kinds i kind each there

-- the first that fails a test
pub record FailsTest (test : ℕ → Bool) (xs : List ℕ) : Type 0 where
  pub place : ℕ
  pub x : ℕ
  pub there : slice_get xs place ≡ Some x
  pub fails : test x ≡ false

pub one_fails : (test : ℕ → Bool) (xs : List ℕ) → list_all test xs ≡ false → FailsTest test xs
one_fails test [] h = absurd cc
one_fails test (x ∷ xs) h = by_first (and_none (test x) (list_all test xs) h) (one_fails test xs)
  where
    by_first : (test x ≡ false) ⊎ (list_all test xs ≡ false) → (list_all test xs ≡ false → FailsTest test xs) → FailsTest test (x ∷ xs)
    by_first (inl e) rest = record { place = 0; x = x; there = refl; fails = e }
    by_first (inr e) rest = let r = rest e in record { place = suc r.place; x = r.x; there = r.there; fails = r.fails }

module _ (bytes : List ℕ) (are_bytes : AreBytes bytes) (p : Program) (h : HasTables bytes p) (place at : ℕ) (class : IsClassAt bytes place at) where
  -- ---- sizes

  types_size : HasSize bytes 64 (sizes_in p).types
  types_size = subst (HasSize bytes 64) (same_length (length p.types) h.t.types.size h.types.0 (word_below bytes are_bytes 64 h.t.types.size h.stand.types.size)) h.stand.types.size

  strings_size : HasSize bytes 56 (sizes_in p).strings
  strings_size = subst (HasSize bytes 56) (same_length (length p.strings) h.t.strings.size h.strings.0 (word_below bytes are_bytes 56 h.t.strings.size h.stand.strings.size)) h.stand.strings.size

  -- ---- the class_def

  fails_index : (offset size : ℕ) → offset + 4 ≤ 32 → IsPlaced bytes (IndexOf (at + offset) size) → Fails (IsJust bytes) (index_at bytes (at + offset) size false)
  unfolding index_at
  fails_index offset size inside placed = fails_next (fails_word bytes (at + offset) (let all = class.inside in omega (arith, inside, all))) (λ n g.
      unless (dex.Pool (pool.Index (at + offset) n size)) (λ no. let e = neither_of (ltb n size) (false && eqb n none) no in
      BadPart (IndexOf (at + offset) size) placed (n, (finds_word bytes (at + offset)).found n g, ltb-false n size e.0, refl)) (λ _. sound n))

  below_none : (n : ℕ) → n < 2 ^ 32 → eqb n none ≡ false → n < 4294967295
  below_none n less e = omega (arith, less, λ (is : n ≡ none). true≢false (sym (eq-eqb n none is) ∙ e))

  fails_or_none : (offset size : ℕ) → offset + 4 ≤ 32 → IsPlaced bytes (IndexOrNone (at + offset) size) → Fails (IsJust bytes) (index_at bytes (at + offset) size true)
  unfolding index_at
  fails_or_none offset size inside placed = fails_next (fails_word bytes (at + offset) (let all = class.inside in omega (arith, inside, all))) (λ n g.
      unless (dex.Pool (pool.Index (at + offset) n size)) (λ no. let e = neither_of (ltb n size) (true && eqb n none) no in let is = (finds_word bytes (at + offset)).found n g in
      BadPart (IndexOrNone (at + offset) size) placed (n, is, ltb-false n size e.0, below_none n (word_below bytes are_bytes (at + offset) n is) e.1, refl)) (λ _. sound n))

  first_index : Fails (IsJust bytes) (index_at bytes at (sizes_in p).types false)
  first_index = let zero_on : at + 0 ≡ at = omega arith in
      subst (λ n. Fails (IsJust bytes) (index_at bytes n (sizes_in p).types false)) zero_on (fails_index 0 (sizes_in p).types (omega arith)
      (subst (λ n. IsPlaced bytes (IndexOf n (sizes_in p).types)) (sym zero_on) (placed.Classes (ClassType place at (sizes_in p).types class.stands types_size))))

  word_there : (offset : ℕ) → offset + 4 ≤ 32 → {Has : DexFault → Type 0} → Fails Has (word_at bytes (at + offset))
  word_there offset inside = fails_word bytes (at + offset) (let all = class.inside in omega (arith, inside, all))

  pub fails_def : Fails (IsJust bytes) (def_at bytes p at)
  unfolding def_at
  fails_def =
      fails_next first_index (λ name _.
      fails_next (word_there 4 (omega arith)) (λ flags _.
      fails_next (fails_or_none 8 (sizes_in p).types (omega arith) (placed.Classes (Superclass place at (sizes_in p).types class.stands types_size))) (λ superclass _.
      fails_next (word_there 12 (omega arith)) (λ interfaces _.
      fails_next (fails_or_none 16 (sizes_in p).strings (omega arith) (placed.Classes (Source place at (sizes_in p).strings class.stands strings_size))) (λ source _.
      fails_next (word_there 20 (omega arith)) (λ annotations _.
      fails_next (word_there 24 (omega arith)) (λ data_at _.
      fails_next (word_there 28 (omega arith)) (λ static_values _.
      sound (record { class = name; flags = flags; superclass = superclass; interfaces = interfaces; source = source; annotations = annotations; data_at = data_at; static_values = static_values })))))))))

  -- ---- its interfaces

  module _ (d : ClassDef) (is : IsReadDef bytes p at d) where
    pub has_def : HasDef bytes place (def_of d)
    has_def = record { at = at; stands = class.stands; is = is.is }

    pub fails_interfaces : (left : ℕ) → Fails (IsJust bytes) (interfaces_at bytes p d.interfaces left)
    unfolding interfaces_at
    fails_interfaces left = fails_either (λ e. sound ([], left))
        (λ e. fails_lifted of_pool (fails_more (just_pool bytes) (fails_list bytes d.interfaces (sizes_in p).types
        (OfClass place (def_of d) has_def (positive_of d.interfaces e, refl)) types_size left)))
      where
        positive_of : (n : ℕ) → eqb n 0 ≡ false → 0 < n
        positive_of zero e = absurd cc
        positive_of (suc n) e = omega arith

    -- ---- its types

    type_at : (k : ℕ) → k < length p.types → (begin : ℕ) × HasTypeText bytes k (type_text p k) begin
    unfolding type_text
    type_at k less =
        let inside : k < h.t.types.size = omega (arith, less, h.types.0) in
        let has = type_has bytes h.t h.stand p.strings h.strings p.types h.types k inside in
        (has.0, subst (λ o. HasTypeText bytes k (text_or_none p o) has.0) (sym (type_there bytes h.t h.stand p.strings h.strings p.types h.types k inside)) has.1)

    pub has_letter : (k : ℕ) → k < length p.types → HasLetter bytes k (letter_of p k)
    unfolding letter_of
    has_letter k less = let text = type_at k less in record { text = type_text p k; begin = text.0; has = text.1; is = refl }

    other_letter : (k : ℕ) → is_class_type p k ≡ false → letter_of p k ≡ 76 → ⊥
    other_letter k differs is = true≢false (sym (eq-eqb (letter_of p k) 76 is) ∙ differs)

    interface_bad : (offset : ℕ) (kinds : List ℕ) → offset ≡ d.interfaces → AreParameters bytes (length p.types) offset kinds → FailsTest (is_class_type p) kinds → HasFault bytes (parts.Root place)
    interface_bad zero kinds same are f = absurd (none_there kinds are f.there)
      where
        none_there : (xs : List ℕ) → xs ≡ [] → slice_get xs f.place ≡ Some f.x → ⊥
        none_there [] e g = absurd cc
        none_there (y ∷ ys) e g = absurd cc
    interface_bad (suc k) kinds same are f =
        let half = half_there bytes (suc k + 4) (length p.types) kinds f.place f.x are.entries.1 f.there in
        BadRoot (faults.Interface place (letter_of p f.x) (suc k) f.place f.x (length kinds) (def_of d) has_def ((omega arith), same)
        are.count (got_short kinds f.place f.x f.there) half.is (has_letter f.x half.below) (other_letter f.x f.fails) refl)

    object_is : (text : List ℕ) → is_object text ≡ true → text ≡ codes "Ljava/lang/Object;"
    object_is text e = (bytes_decides text (codes "Ljava/lang/Object;")).0 e

    pub fails_root : (interfaces : List ℕ) → AreParameters bytes (length p.types) d.interfaces interfaces → Fails (IsJust bytes) (root_at p d interfaces place)
    unfolding root_at
    fails_root interfaces are = unless (dex.Root place) (λ no. by_superclass (eqb d.superclass none) refl no) (λ _. sound tt)
      where
        tests : Bool
        tests = is_class_type p d.class && (is_class_type p d.superclass && list_all (is_class_type p) interfaces)

        no_superclass : eqb d.superclass none ≡ true → HasFault bytes (parts.Root place)
        no_superclass e = BadRoot (faults.NoSuperclass place (def_of d) has_def (eqb-true d.superclass none e) refl)

        above : eqb d.superclass none ≡ false → d.superclass < length p.types
        above e = is.above (λ same. true≢false (sym (eq-eqb d.superclass none same) ∙ e))

        object : is_object (type_text p d.class) ≡ true → HasFault bytes (parts.Root place)
        object e = let text = type_at d.class is.is_type in
            BadRoot (faults.IsObject place text.0 (def_of d) has_def (subst (λ s. HasTypeText bytes d.class s text.0) (object_is (type_text p d.class) e) text.1) refl)

        own : is_class_type p d.class ≡ false → HasFault bytes (parts.Root place)
        own e = BadRoot (faults.OwnType place (letter_of p d.class) (def_of d) has_def (has_letter d.class is.is_type) (other_letter d.class e) refl)

        its_superclass : eqb d.superclass none ≡ false → is_class_type p d.superclass ≡ false → HasFault bytes (parts.Root place)
        its_superclass some e = BadRoot (faults.Above place (letter_of p d.superclass) (def_of d) has_def (has_letter d.superclass (above some)) (other_letter d.superclass e) refl)

        its_interfaces : list_all (is_class_type p) interfaces ≡ false → HasFault bytes (parts.Root place)
        its_interfaces e = interface_bad d.interfaces interfaces refl are (one_fails (is_class_type p) interfaces e)

        by_last : eqb d.superclass none ≡ false → (is_class_type p d.superclass ≡ false) ⊎ (list_all (is_class_type p) interfaces ≡ false) → HasFault bytes (parts.Root place)
        by_last some (inl e) = its_superclass some e
        by_last some (inr e) = its_interfaces e

        by_own : eqb d.superclass none ≡ false → (is_class_type p d.class ≡ false) ⊎ ((is_class_type p d.superclass && list_all (is_class_type p) interfaces) ≡ false) → HasFault bytes (parts.Root place)
        by_own some (inl e) = own e
        by_own some (inr e) = by_last some (and_none (is_class_type p d.superclass) (list_all (is_class_type p) interfaces) e)

        by_object : eqb d.superclass none ≡ false → (not (is_object (type_text p d.class)) ≡ false) ⊎ (tests ≡ false) → HasFault bytes (parts.Root place)
        by_object some (inl e) = object (not_false (is_object (type_text p d.class)) e)
        by_object some (inr e) = by_own some (and_none (is_class_type p d.class) (is_class_type p d.superclass && list_all (is_class_type p) interfaces) e)

        by_superclass : (b : Bool) → eqb d.superclass none ≡ b → (not b && (not (is_object (type_text p d.class)) && tests)) ≡ false → HasFault bytes (parts.Root place)
        by_superclass true e none_of = no_superclass e
        by_superclass false e fails = by_object e (and_none (not (is_object (type_text p d.class))) tests fails)
