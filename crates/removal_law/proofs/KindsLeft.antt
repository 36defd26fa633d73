-- Kinds in what is left of a program: their order, and the kinds of types. A kind whose class isn't left becomes null,
-- which fits wherever an object of that class fits a live type.
use Rattle.std.proofs.Common.{◌≡◌, ℕ, zero, suc, Bool, true, false, List, [], ◌∷◌, length, refl, sym, ap, ◌∙◌, subst}
use Rattle.std.specs.Prelude.{◌&&◌, ◌||◌, not, cond, nat_eq, Option, Some, None, map, find, if◌then◌else◌}
use Rattle.std.specs.List.{list_any}
use Rattle.std.proofs.lemmas.Bool.{eq-eqb}
use Rattle.std.specs.Option.{option_map}
use Rattle.lemmas.proofs.Options.{none_some, some_same}
use Rattle.dalvik_defs.specs.Names.{Text, text_eq, object_type, is_word, is_wide, is_reference, is_array, is_class_type, base_of}
use Rattle.dalvik_defs.specs.Flags.{is_interface}
use Rattle.dalvik_defs.specs.Under.{class_named, defines}
use Rattle.dalvik_defs.specs.declared.program.NamedClass.{NamedClass}
use Rattle.dalvik_defs.specs.declared.program.NamedProgram.{NamedProgram}
use Rattle.dalvik_defs.proofs.Calm.{text_sound}
use Rattle.pass_defs.specs.Kinds.{Kind, Undefined, Zero, Word, Low, High, Null, Class, Array, Reference, Fresh, FreshThis, kind_eq, is_initialised, depth, arrays_of, is_plain, is_program_interface, kind_of_reference, kind_of, line_of, nearest, is_flat, object_array, joined_items, joined_deep, joined_arrays, class_or_reference, is_below}
use Rattle.pass_defs.specs.Registers.{kind_at}
use Rattle.pass_defs.specs.Live.{Family, KeepsAbove}
use Rattle.removal_law.specs.Left.{left_in, left_of}
use Rattle.removal_law.specs.Reach.{IsRegular, OkType}
use Rattle.removal_law.proofs.Lists.{clash, found_in}
use Rattle.removal_law.proofs.Walks.{text_same}
use Rattle.removal_law.proofs.Classes.{Kept, class_left}
use Rattle.removal_law.proofs.Trees.{chain_named, chain_kept, defined}
use Rattle.removal_law.proofs.Lines.{line_same, line_in_chain}
use Rattle.removal_law.proofs.Outward.{no_bracket}

-- ---- texts and kinds equal to themselves

pub kind_self : (k : Kind) → kind_eq k k ≡ true
kind_self (Class t) = text_same t
kind_self (Array t) = text_same t
kind_self (Fresh t n) = ap (λ b. b && nat_eq n n) (text_same t) ∙ eq-eqb n n refl
kind_self k = refl

-- a kind of objects
abbrev pub is_object : Kind → Bool
is_object (Class t) = true
is_object (Array t) = true
is_object Reference = true
is_object k = false

-- ---- a type without its brackets

base_step : (x : ℕ) (us : Text) → is_array (x ∷ us) ≡ false → base_of (x ∷ us) ≡ x ∷ us
base_step x us e = ap (λ b. elim b as (λ b. Text) [ true ↦ base_of us | false ↦ x ∷ us ]) e

pub base_bare : (t : Text) → is_array t ≡ false → base_of t ≡ t
base_bare [] e = refl
base_bare (x ∷ us) e = base_step x us e

pub base_arrays : (n : ℕ) (t : Text) → base_of (arrays_of n t) ≡ base_of t
base_arrays zero t = refl
base_arrays (suc n) t = base_arrays n t

pub class_bare : (t : Text) → is_class_type t ≡ true → is_array t ≡ false
class_bare [] e = refl
class_bare (x ∷ us) e = no_bracket x e

-- ---- the order

module _ (p : NamedProgram) where
  pub undefined_above : (k : Kind) → is_below p k Undefined ≡ true
  undefined_above Undefined = refl
  undefined_above Zero = refl
  undefined_above Word = refl
  undefined_above Low = refl
  undefined_above High = refl
  undefined_above Null = refl
  undefined_above (Class t) = refl
  undefined_above (Array t) = refl
  undefined_above Reference = refl
  undefined_above (Fresh t n) = refl
  undefined_above FreshThis = refl

  pub null_below : (t : Text) → is_below p Null (Class t) ≡ true
  null_below t = text_same t

  reference_above : (k : Kind) → is_initialised k ≡ true → is_below p k Reference ≡ true
  reference_above Zero e = refl
  reference_above Null e = refl
  reference_above (Class t) e = refl
  reference_above (Array t) e = refl
  reference_above Reference e = refl
  reference_above k e = clash false e refl

  below_reference : (k : Kind) → is_below p k Reference ≡ true → is_initialised k ≡ true
  below_reference Zero e = refl
  below_reference Null e = refl
  below_reference (Class t) e = refl
  below_reference (Array t) e = refl
  below_reference Reference e = refl
  below_reference k e = clash false e refl

  itself_below : (k : Kind) → is_below p k k ≡ true
  itself_below k = rw (kind_self k) (kind_self k)

-- ---- the nearest common superclass

abbrev shared : List NamedClass → NamedClass → Bool
shared ds c = list_any (λ d. text_eq c.name d.name) ds

abbrev first_shared : List NamedClass → List NamedClass → Option Text
first_shared ds cs = option_map (λ c. c.name) (find (shared ds) cs)

module _ (p : NamedProgram) (s : Family) where
  shared_left : (ds : List NamedClass) (c : NamedClass) → shared (map (left_in s) ds) (left_in s c) ≡ shared ds c
  shared_left [] c = refl
  shared_left (d ∷ ds) c = ap (λ b. text_eq c.name d.name || b) (shared_left ds c)

  first_left : (ds cs : List NamedClass) → first_shared (map (left_in s) ds) (map (left_in s) cs) ≡ first_shared ds cs
  first_left ds [] = refl
  first_left ds (c ∷ cs) = ap (λ b. option_map (λ (c : NamedClass). c.name) (cond b (Some (left_in s c)) (find (shared (map (left_in s) ds)) (map (left_in s) cs)))) (shared_left ds c) ∙ by (shared ds c) (first_left ds cs)
    where
      by : (b : Bool) → first_shared (map (left_in s) ds) (map (left_in s) cs) ≡ first_shared ds cs → option_map (λ (c : NamedClass). c.name) (cond b (Some (left_in s c)) (find (shared (map (left_in s) ds)) (map (left_in s) cs))) ≡ option_map (λ (c : NamedClass). c.name) (cond b (Some c) (find (shared ds) cs))
      by true h = refl
      by false h = h

  -- ---- a kind, as it is left

  -- the program defines a class that isn't left
  abbrev pub is_gone : Text → Bool
  is_gone t = defines p t && not (s.classes t)

  -- the base of an array isn't left
  abbrev pub is_lost : Text → Bool
  is_lost t = is_gone (base_of t) || not (is_array t)

  abbrev pub null_if : Bool → Kind → Kind
  null_if b k = elim b as (λ b. Kind) [ true ↦ Null | false ↦ k ]

  abbrev pub left_kind : Kind → Kind
  left_kind (Class t) = null_if (is_gone t) (Class t)
  left_kind (Array t) = null_if (is_lost t) (Array t)
  left_kind k = k

  null_same : {X : Type 0} (F : Kind → X) (b : Bool) (k : Kind) → F Null ≡ F k → F (null_if b k) ≡ F k
  null_same F true k e = e
  null_same F false k e = refl

  pub at_left : (ks : List Kind) (r : ℕ) → kind_at (map left_kind ks) r ≡ left_kind (kind_at ks r)
  at_left [] r = refl
  at_left (k ∷ ks) zero = refl
  at_left (k ∷ ks) (suc r) = at_left ks r

  -- what null and each class and array answer alike
  pub same_left : {X : Type 0} (F : Kind → X) → ((t : Text) → F Null ≡ F (Class t)) → ((t : Text) → F Null ≡ F (Array t)) → (k : Kind) → F (left_kind k) ≡ F k
  same_left F c a (Class t) = null_same F (is_gone t) (Class t) (c t)
  same_left F c a (Array t) = null_same F (is_lost t) (Array t) (a t)
  same_left F c a k = refl

  pub kept_stays : (t : Text) → Kept s p t → is_gone t ≡ false
  kept_stays t h = by (defines p t) (s.classes t) h
    where
      by : (a b : Bool) → (a ≡ true → b ≡ true) → (a && not b) ≡ false
      by true b h = ap not (h refl)
      by false b h = refl

  pub stays_kept : (t : Text) → is_gone t ≡ false → Kept s p t
  stays_kept t e = by (defines p t) (s.classes t) e
    where
      by : (a b : Bool) → (a && not b) ≡ false → a ≡ true → b ≡ true
      by a true e d = refl
      by true false e d = sym e
      by false false e d = d

  pub class_stays : (t : Text) → Kept s p t → left_kind (Class t) ≡ Class t
  class_stays t h = ap (λ b. null_if b (Class t)) (kept_stays t h)

  pub record LeftArray (t : Text) : Type 0 where
    pub ok : OkType p s t
    pub array : is_array t ≡ true

  left_array : (t : Text) → LeftArray t → is_lost t ≡ false
  left_array t h = ap (λ b. b || not (is_array t)) (kept_stays (base_of t) h.ok) ∙ ap not h.array

  pub array_left : (t : Text) → is_lost t ≡ false → LeftArray t
  array_left t e = by (is_gone (base_of t)) (is_array t) refl refl e
    where
      by : (a b : Bool) → is_gone (base_of t) ≡ a → is_array t ≡ b → (a || not b) ≡ false → LeftArray t
      by false true i j e = record { ok = stays_kept (base_of t) i; array = j }
      by false false i j e = clash true refl e
      by true b i j e = clash true refl e

  pub array_stays : (t : Text) → LeftArray t → left_kind (Array t) ≡ Array t
  array_stays t h = ap (λ b. null_if b (Array t)) (left_array t h)

module _ (p : NamedProgram) (s : Family) (above : KeepsAbove p s) (regular : IsRegular p) (none : defines p object_type ≡ false) where
  abbrev q : NamedProgram
  q = left_of s p

  -- ---- the kinds of types

  pub plain_left : (t : Text) → Kept s p t → is_plain q t ≡ is_plain p t
  plain_left t h = ap (λ o. elim o as (λ o. Bool) [ Some c ↦ not (is_interface c.flags) | None ↦ false ]) (class_left s p t h) ∙ by (class_named p t)
    where
      by : (o : Option NamedClass) → elim (option_map (left_in s) o) as (λ o. Bool) [ Some c ↦ not (is_interface c.flags) | None ↦ false ] ≡ elim o as (λ o. Bool) [ Some c ↦ not (is_interface c.flags) | None ↦ false ]
      by None = refl
      by (Some c) = refl

  pub interface_left : (t : Text) → Kept s p t → is_program_interface q t ≡ is_program_interface p t
  interface_left t h = ap (λ o. elim o as (λ o. Bool) [ Some c ↦ is_interface c.flags | None ↦ false ]) (class_left s p t h) ∙ by (class_named p t)
    where
      by : (o : Option NamedClass) → elim (option_map (left_in s) o) as (λ o. Bool) [ Some c ↦ is_interface c.flags | None ↦ false ] ≡ elim o as (λ o. Bool) [ Some c ↦ is_interface c.flags | None ↦ false ]
      by None = refl
      by (Some c) = refl

  -- a type that the program defines has no brackets
  pub type_kept : (t : Text) → OkType p s t → Kept s p t
  type_kept t h = λ d. let e : base_of t ≡ t = base_bare t (class_bare t (regular.names t d)) in ap s.classes (sym e) ∙ h (ap (defines p) e ∙ d)

  pub bare_kept : (t : Text) → is_array t ≡ false → OkType p s t → Kept s p t
  bare_kept t e h = subst (Kept s p) (base_bare t e) h

  pub reference_left : (t : Text) → OkType p s t → kind_of_reference q t ≡ left_kind p s (kind_of_reference p t)
  reference_left t h = by (is_array t) refl
    where
      plain : Kept s p t → (b : Bool) → (if b then Class t else Reference) ≡ left_kind p s (if b then Class t else Reference)
      plain k true = sym (class_stays p s t k)
      plain k false = refl

      by : (b : Bool) → is_array t ≡ b → (if b then Array t else if is_plain q t then Class t else Reference) ≡ left_kind p s (if b then Array t else if is_plain p t then Class t else Reference)
      by true e = sym (array_stays p s t (record { ok = h; array = e }))
      by false e = ap (λ b. if b then Class t else Reference) (plain_left t (bare_kept t e h)) ∙ plain (bare_kept t e h) (is_plain p t)

  pub kind_left : (t : Text) → OkType p s t → kind_of q t ≡ left_kind p s (kind_of p t)
  kind_left t h = by (is_word t) (is_wide t) (is_reference t)
    where
      by : (a b c : Bool) → (if a then Word else if b then Low else if c then kind_of_reference q t else Undefined) ≡ left_kind p s (if a then Word else if b then Low else if c then kind_of_reference p t else Undefined)
      by true b c = refl
      by false true c = refl
      by false false true = reference_left t h
      by false false false = refl

  -- ---- the nearest common superclass is the same, and kept

  pub nearest_left : (t u : Text) → Kept s p t → Kept s p u → nearest q t u ≡ nearest p t u
  nearest_left t u h k = ap (λ cs. first_shared (line_of q u) cs) (line_same p s above regular t h) ∙ ap (λ ds. first_shared ds (map (left_in s) (line_of p t))) (line_same p s above regular u k) ∙ first_left p s (line_of p u) (line_of p t)

  record IsNear (t c : Text) : Type 0 where
    pub kept : Kept s p c
    pub bare : is_array c ≡ false

  near : (t u c : Text) → Kept s p t → nearest p t u ≡ Some c → IsNear t c
  near t u c h e = by (find (shared (line_of p u)) (line_of p t)) refl e
    where
      by : (o : Option NamedClass) → find (shared (line_of p u)) (line_of p t) ≡ o → option_map (λ (c : NamedClass). c.name) o ≡ Some c → IsNear t c
      by None i j = none_some c j
      by (Some d) i j =
          let e : d.name ≡ c = some_same d.name c j in
          let f = line_in_chain p (length p.classes) t d (found_in (shared (line_of p u)) (line_of p t) d i).is_in in
          record {
            kept = subst (Kept s p) e (chain_kept p s above (length p.classes) t d h f);
            bare = class_bare c (regular.names c (ap (defines p) (sym e) ∙ defined p d.name d (chain_named p s above (length p.classes) t d f)));
          }

  -- ---- the order

  -- null and zero are below what is left of a class or an array
  null_over : (b : Bool) (k : Kind) → is_below q Null k ≡ true → is_below q Null (null_if p s b k) ≡ true
  null_over true k e = refl
  null_over false k e = e

  zero_over : (b : Bool) (k : Kind) → is_below q Zero k ≡ true → is_below q Zero (null_if p s b k) ≡ true
  zero_over true k e = refl
  zero_over false k e = e

  abbrev class_met : Text → Text → Option Text → Bool
  class_met t u o = kind_eq (if text_eq t u then Class t else class_or_reference o) (Class u)

  abbrev array_met : Text → Text → Kind → Bool
  array_met t u k = kind_eq (if text_eq t u then Array t else k) (Array u)

  -- a type below another one that isn't left is not left
  class_falls : (t u : Text) → Kept s p t → class_met t u (nearest p t u) ≡ true → Kept s p u
  class_falls t u h e = by (text_eq t u) refl (nearest p t u) refl e
    where
      by : (b : Bool) → text_eq t u ≡ b → (o : Option Text) → nearest p t u ≡ o → kind_eq (if b then Class t else class_or_reference o) (Class u) ≡ true → Kept s p u
      by true i o j e = subst (Kept s p) (text_sound t u i) h
      by false i (Some c) j e = subst (Kept s p) (text_sound c u e) (near t u c h j).kept
      by false i None j e = clash false e refl

  deep_array : (n : ℕ) (t : Text) → is_array (arrays_of (suc n) t) ≡ true
  deep_array n t = refl

  has_depth : (t : Text) → is_array t ≡ true → (n : ℕ) × (depth t ≡ suc n)
  has_depth [] e = clash false e refl
  has_depth (x ∷ t) e = (depth t, ap (λ b. elim b as (λ b. ℕ) [ true ↦ suc (depth t) | false ↦ 0 ]) e)

  array_falls : (t u : Text) → LeftArray p s t → array_met t u (joined_arrays p t u) ≡ true → LeftArray p s u
  array_falls t u h e = by (text_eq t u) refl (nat_eq (depth t) (depth u)) (nearest p (base_of t) (base_of u)) refl e
    where
      deep : (b : Bool) → kind_eq (if b then Reference else Array object_array) (Array u) ≡ true → LeftArray p s u
      deep true e = clash false e refl
      deep false e = subst (LeftArray p s) (text_sound object_array u e) (record { ok = λ d. clash (defines p object_type) d none; array = refl })

      raised : (c : Text) → IsNear (base_of t) c → arrays_of (depth t) c ≡ u → LeftArray p s u
      raised c n e =
          let d = has_depth t h.array in
          record {
            ok = subst (Kept s p) (sym (base_bare c n.bare) ∙ sym (base_arrays (depth t) c) ∙ ap base_of e) n.kept;
            array = ap is_array (sym e) ∙ ap (λ n. is_array (arrays_of n c)) d.1 ∙ deep_array d.0 c;
          }

      by : (b : Bool) → text_eq t u ≡ b → (d : Bool) → (o : Option Text) → nearest p (base_of t) (base_of u) ≡ o
          → kind_eq (if b then Array t else elim d as (λ d. Kind) [ true ↦ joined_items t u o | false ↦ joined_deep t u ]) (Array u) ≡ true → LeftArray p s u
      by true i d o j e = subst (LeftArray p s) (text_sound t u i) h
      by false i true (Some c) j e = raised c (near (base_of t) (base_of u) c h.ok j) (text_sound (arrays_of (depth t) c) u e)
      by false i true None j e = deep (is_flat t || is_flat u) e
      by false i false o j e = deep (is_flat t || is_flat u) e

  class_below : (t u : Text) (a b : Bool) → is_gone p s t ≡ a → is_gone p s u ≡ b → class_met t u (nearest p t u) ≡ true → is_below q (null_if p s a (Class t)) (null_if p s b (Class u)) ≡ true
  class_below t u true b i j e = null_over b (Class u) (text_same u)
  class_below t u false true i j e = clash (is_gone p s u) j (kept_stays p s u (class_falls t u (stays_kept p s t i) e))
  class_below t u false false i j e = ap (class_met t u) (nearest_left t u (stays_kept p s t i) (stays_kept p s u j)) ∙ e

  array_below : (t u : Text) (a b : Bool) → is_lost p s t ≡ a → is_lost p s u ≡ b → array_met t u (joined_arrays p t u) ≡ true → is_below q (null_if p s a (Array t)) (null_if p s b (Array u)) ≡ true
  array_below t u true b i j e = null_over b (Array u) (text_same u)
  array_below t u false true i j e = clash (is_lost p s u) j (left_array p s u (array_falls t u (array_left p s t i) e))
  array_below t u false false i j e = ap (λ o. array_met t u (elim (nat_eq (depth t) (depth u)) as (λ d. Kind) [ true ↦ joined_items t u o | false ↦ joined_deep t u ]))
      (nearest_left (base_of t) (base_of u) (array_left p s t i).ok (array_left p s u j).ok) ∙ e

  pub below_left : (a b : Kind) → is_below p a b ≡ true → is_below q (left_kind p s a) (left_kind p s b) ≡ true
  below_left a Undefined e = undefined_above q (left_kind p s a)
  below_left a Reference e = reference_above q (left_kind p s a) (same_left p s is_initialised (λ t. refl) (λ t. refl) a ∙ below_reference p a e)
  below_left Zero (Class u) e = zero_over (is_gone p s u) (Class u) (text_same u)
  below_left Null (Class u) e = null_over (is_gone p s u) (Class u) (text_same u)
  below_left (Class t) (Class u) e = class_below t u (is_gone p s t) (is_gone p s u) refl refl e
  below_left Zero (Array u) e = zero_over (is_lost p s u) (Array u) (text_same u)
  below_left Null (Array u) e = null_over (is_lost p s u) (Array u) (text_same u)
  below_left (Array t) (Array u) e = array_below t u (is_lost p s t) (is_lost p s u) refl refl e
  below_left Zero Zero e = refl
  below_left Zero Word e = refl
  below_left Word Word e = refl
  below_left Low Low e = refl
  below_left High High e = refl
  below_left Zero Null e = refl
  below_left Null Null e = refl
  below_left (Fresh t n) (Fresh u m) e = e
  below_left FreshThis FreshThis e = refl
  below_left a b e = clash false e refl

  -- null is below what is left of a kind that an object is below
  pub null_under : (k b : Kind) → is_object k ≡ true → is_below p k b ≡ true → is_below q Null (left_kind p s b) ≡ true
  null_under k Undefined i e = refl
  null_under k Reference i e = refl
  null_under k (Class u) i e = null_over (is_gone p s u) (Class u) (text_same u)
  null_under k (Array u) i e = null_over (is_lost p s u) (Array u) (text_same u)
  null_under (Class t) b i e = clash false e refl
  null_under (Array t) b i e = clash false e refl
  null_under Reference b i e = clash false e refl
  null_under k b i e = clash false i refl
