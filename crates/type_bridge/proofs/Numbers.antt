-- Kinds by numbers that stand for one kind by names alone are told apart by it.
use Rattle.std.proofs.Common.{◌≡◌, ℕ, zero, suc, ◌<◌, Bool, true, false, true≢false, nat_eq, nat_lt, [], length, Option, Some, None, refl, sym, ap, ◌∙◌, subst}
use Rattle.std.specs.Prelude.{slice_get, position, is_some, if◌then◌else◌}
use Rattle.std.specs.Option.{option_map}
use Rattle.std.specs.Cmp.Lexicographic.{bytes_decides}
use Rattle.std.proofs.lemmas.Bool.{eqb-true, ltb-true}
use Rattle.lemmas.proofs.Lists.{got_short}
use Rattle.class_defs.proofs.Positions.{same_test, entry_at, place_first, FirstPlace, place_entry, PlaceFits}
use Rattle.program_model.specs.declared.program.Class.{Class}
use Rattle.program_model.specs.declared.program.Program.{Program}
use Rattle.dalvik_defs.specs.Names.{Text, text_eq, object_type, base_of}
use Rattle.dalvik_defs.specs.Naming.{text_at, type_at}
use Rattle.name_bridge.proofs.Tables.{type_once}
use Rattle.pass_defs.specs.Kinds.{Kind, Undefined, Zero, Word, Low, High, Null, Class as ClassKind, Array, Reference, Fresh, FreshThis, kind_eq, depth, arrays_of}
use Rattle.pass_defs.proofs.Writes as name
use Rattle.verify.specs.declared.kinds.Kind as number
use Rattle.verify.specs.declared.kinds.Kind.TheVariants as kind
use Rattle.verify.specs.declared.tables.Tables.{Tables}
use Rattle.verify.specs.Descriptors.{class_named, item_named}
use Rattle.verify.specs.Kinds.{same_kind, same_number}
use Rattle.verify.proofs.Lattice.{left_true, right_true, number_is, same_is}
use Rattle.verify.proofs.Raises.{kind_itself}
use Rattle.type_bridge.specs.Views.{item_text, class_kind, kind_named}
use Rattle.type_bridge.specs.Numbered.{is_numbered}
use Rattle.type_bridge.proofs.Lines.{placed_at}
use Rattle.type_bridge.proofs.Told.{Told}
use Rattle.type_bridge.proofs.Texts.{depth_of, base_under, item_bare}

pub kind_is : (a b : Kind) → kind_eq a b ≡ true → a ≡ b
kind_is Undefined Undefined e = refl
kind_is Zero Zero e = refl
kind_is Word Word e = refl
kind_is Low Low e = refl
kind_is High High e = refl
kind_is Null Null e = refl
kind_is Reference Reference e = refl
kind_is FreshThis FreshThis e = refl
kind_is (ClassKind s) (ClassKind u) e = ap ClassKind ((bytes_decides s u).0 e)
kind_is (Array s) (Array u) e = ap Array ((bytes_decides s u).0 e)
kind_is (Fresh s n) (Fresh u m) e = ap (λ v. Fresh v n) ((bytes_decides s u).0 (left_true (text_eq s u) (nat_eq n m) e)) ∙ ap (Fresh u) (eqb-true n m (right_true (text_eq s u) (nat_eq n m) e))
kind_is a b e = absurd (cc)

-- ---- the kind by numbers of a kind by names, if it has one

abbrev pub type_named : Program → Text → Option ℕ
type_named p u = position (λ s. text_eq (text_at p s) u) p.types

-- the item of arrays of a text without brackets; that of objects needs no type
abbrev pub item_number : Program → Text → Option (Option ℕ)
item_number p u = if text_eq u object_type then Some (item_named p u) else option_map Some (item_named p u)

abbrev pub array_number : Program → ℕ → Text → Option number.Kind
array_number p zero u = None
array_number p (suc n) u = option_map (kind.Array (suc n)) (item_number p u)

abbrev pub kind_number : Program → Kind → Option number.Kind
kind_number p Undefined = Some kind.Undefined
kind_number p Zero = Some kind.Zero
kind_number p Word = Some kind.Word
kind_number p Low = Some kind.WideLow
kind_number p High = Some kind.WideHigh
kind_number p Null = Some kind.Null
kind_number p (ClassKind u) = option_map kind.Program (class_named p u)
kind_number p (Array u) = array_number p (depth u) (base_of u)
kind_number p Reference = Some kind.Reference
kind_number p (Fresh u n) = option_map (λ k. kind.Fresh k n) (type_named p u)
kind_number p FreshThis = Some kind.FreshThis

module _ (p : Program) (t : Tables) (d : Told p t) where
  item_back : (i : Option ℕ) → item_named p (item_text p i) ≡ i → item_number p (item_text p i) ≡ Some i
  item_back None e = ap Some e
  item_back (Some k) e = by (text_eq (base_of (type_at p k)) object_type)
    where
      by : (b : Bool) → (if b then Some (item_named p (base_of (type_at p k))) else option_map Some (item_named p (base_of (type_at p k)))) ≡ Some (Some k)
      by true = ap Some e
      by false = ap (option_map Some) e

  pub type_back : (k : ℕ) → k < length p.types → type_named p (type_at p k) ≡ Some k
  type_back k h =
      let r = entry_at p.types k h in
      let here : type_at p k ≡ text_at p r.0 = spelled k r.0 r.1 in
      let f : FirstPlace (λ s. text_eq (text_at p s) (type_at p k)) p.types k = place_first (λ s. text_eq (text_at p s) (type_at p k)) p.types k r.0 r.1 ((bytes_decides (text_at p r.0) (type_at p k)).1 (sym here)) in
      let q : PlaceFits (λ s. text_eq (text_at p s) (type_at p k)) p.types f.place = place_entry (λ s. text_eq (text_at p s) (type_at p k)) p.types f.place f.is in
      f.is ∙ ap Some (type_once p d.sound f.place k (got_short p.types f.place q.entry q.is) h (spelled f.place q.entry q.is ∙ (bytes_decides (text_at p q.entry) (type_at p k)).0 q.passes))
    where
      spelled : (j s : ℕ) → slice_get p.types j ≡ Some s → type_at p j ≡ text_at p s
      spelled j s e = ap (λ o. elim o as (λ o. Text) [ Some n ↦ text_at p n | None ↦ [] ]) e

  -- a kind has the number of its name
  pub number_back : (k : number.Kind) → is_numbered p k ≡ true → kind_number p (kind_named p k) ≡ Some k
  number_back (kind.Program c) e = by (slice_get p.classes c) refl e
    where
      by : (o : Option Class) → slice_get p.classes c ≡ o → is_some o ≡ true → kind_number p (class_kind p o) ≡ Some (kind.Program c)
      by None f g = absurd (true≢false (sym g))
      by (Some k) f g = ap (option_map kind.Program) (placed_at p t d c k f)
  number_back (kind.Array zero i) e = absurd (true≢false (sym e))
  number_back (kind.Array (suc n) i) e =
      ap (λ m. array_number p m (base_of (arrays_of (suc n) (item_text p i)))) (depth_of (suc n) (item_text p i) (item_bare p i))
      ∙ ap (array_number p (suc n)) (base_under (suc n) (item_text p i) (item_bare p i))
      ∙ ap (option_map (kind.Array (suc n))) (item_back i (number_is (item_named p (item_text p i)) i (right_true (nat_lt 0 (suc n)) (same_number (item_named p (item_text p i)) i) e)))
  number_back (kind.Fresh c n) e = ap (option_map (λ k. kind.Fresh k n)) (type_back c (ltb-true c (length p.types) e))
  number_back kind.Undefined e = refl
  number_back kind.Zero e = refl
  number_back kind.Word e = refl
  number_back kind.WideLow e = refl
  number_back kind.WideHigh e = refl
  number_back kind.Null e = refl
  number_back kind.Reference e = refl
  number_back kind.FreshThis e = refl

  -- two kinds of one name are one
  pub one_kind : (a b : number.Kind) → is_numbered p a ≡ true → is_numbered p b ≡ true → kind_named p a ≡ kind_named p b → a ≡ b
  one_kind a b e f s = let n : Some a ≡ Some b = sym (number_back a e) ∙ ap (kind_number p) s ∙ number_back b f in cc

  pub same_named : (a b : number.Kind) → is_numbered p a ≡ true → is_numbered p b ≡ true → kind_eq (kind_named p a) (kind_named p b) ≡ same_kind a b
  same_named a b e f = same_test (kind_eq (kind_named p a) (kind_named p b)) (same_kind a b)
      (λ h. subst (λ x. same_kind a x ≡ true) (one_kind a b e f (kind_is (kind_named p a) (kind_named p b) h)) (kind_itself a))
      (λ h. subst (λ x. kind_eq (kind_named p a) (kind_named p x) ≡ true) (same_is a b h) (name.same_kind (kind_named p a)))
