-- Walks up from a type, by number and by name, and what stands outside above a type.
use Rattle.std.proofs.Common.{◌≡◌, ℕ, zero, suc, ◌<◌, Bool, true, false, true≢false, nat_eq, List, [], ◌∷◌, length, Option, Some, None, refl, sym, ap, ◌∙◌, subst, arith}
use Rattle.std.specs.Prelude.{◌&&◌, ◌||◌, not, is_some, Contains, slice_get, position, option_and_then}
use Rattle.std.specs.List.{list_any}
use Rattle.std.specs.Option.{option_map}
use Rattle.lemmas.proofs.Lists.{got_short}
use Rattle.program_model.specs.declared.program.Class.{Class}
use Rattle.program_model.specs.declared.program.Program.{Program}
use Rattle.program_model.specs.declared.pass.Outside.{Outside}
use Rattle.program_model.specs.Lookups.{class_place}
use Rattle.program_model.specs.Texts.{string_text}
use Rattle.class_defs.proofs.Positions.{entry_at, number_of, place_entry, place_first}
use Rattle.class_defs.proofs.WellFormed.{class_parts, below}
use Rattle.program_model.specs.Texts.{has_type}
use Rattle.call_graph.specs.Bases.{same_text, object_text, or_none, object_number}
use Rattle.call_graph.specs.Follows.{class_of}
use Rattle.call_graph.specs.Above.{above_of, above_kinds, Climbs, is_outer}
use Rattle.call_graph.specs.Objects.{IsOutward}
use Rattle.call_graph.specs.declared.live_set.LiveSet.{LiveSet}
use Rattle.dalvik_defs.specs.Names.{Text, text_eq, object_type}
use Rattle.dalvik_defs.specs.Naming.{text_at, type_at, named_class, named}
use Rattle.dalvik_defs.specs.Under.{class_named, defines, own_above, walks, touches_framework, reaches_framework}
use Rattle.dalvik_defs.specs.declared.program.NamedClass.{NamedClass}
use Rattle.dalvik_defs.proofs.Calm.{text_sound}
use Rattle.name_bridge.specs.Named.{class_at}
use Rattle.name_bridge.proofs.Tables.{type_once}
use Rattle.name_bridge.proofs.Classes.{class_by_number}
use Rattle.name_bridge.proofs.Found.{text_same}
use Rattle.removal_law.proofs.Lists.{In, here, there, clash, contained, all_in, and_left, and_behind}
use Rattle.removal_law.proofs.Walks as walk
use Rattle.removal_law.proofs.Walks.{choice}
use Rattle.removal_law.proofs.Outward.{any_where}
use Rattle.removal_law.proofs.Declared.{not_false}
use Rattle.removal_law.proofs.Trees.{defined}
use Rattle.reach.specs.Marked.{IsMarked}
use Rattle.reach_bridge.proofs.Kept.{other_number}
use Rattle.reach_bridge.proofs.Held.{of_image}
use Rattle.reach_bridge.proofs.Based.{S, few_types}
use Rattle.reach_bridge.proofs.Upward.{own_class}

-- a climb goes on
climb_on : (p : Program) (a b c : ℕ) → a < length p.types → Contains (above_kinds p a) b → Climbs p b c → Climbs p a c
climb_on p a b c lt i more = Climbs.Through a b c lt i more

module _ (p : Program) (o : Outside) (s : LiveSet) (g : IsMarked p o s) where
  -- ---- a step up

  pub record Step (k : ℕ) (v : Text) : Type 0 where
    pub next : ℕ
    pub short : next < length p.types
    pub above : Contains (above_kinds p k) next
    pub is : type_at p next ≡ v

  short_above : (i : ℕ) (c : Class) → slice_get p.classes i ≡ Some c → (n : ℕ) → In n (c.superclass ∷ c.interfaces) → n < length p.types
  short_above i c e n at = by n c.superclass at refl
    where
      by : (n m : ℕ) → In n (m ∷ c.interfaces) → m ≡ c.superclass → n < length p.types
      by n m (here ns) e' = subst (λ z. z < length p.types) (sym e') (class_parts p (S p o s g) i c e).superclass
      by n m (there z ns j) e' = below n (length p.types) (all_in (has_type p) c.interfaces (class_parts p (S p o s g) i c e).interfaces n j)

  pub step_in : (k : ℕ) → k < length p.types → (c : NamedClass) → class_named (named p) (type_at p k) ≡ Some c → (v : Text) → In v (c.superclass ∷ c.interfaces) → Step k v
  step_in k lt c is v i =
      let w = own_class p o s g k lt c is in
      let r = of_image (type_at p) v (w.class.superclass ∷ w.class.interfaces) (subst (λ z. In v (z.superclass ∷ z.interfaces)) (sym w.is) i) in
      let at : class_of p k ≡ Some w.class = ap (option_and_then (slice_get p.classes)) w.is_place ∙ w.is_class in
      record {
        next = r.0;
        short = short_above w.place w.class w.is_class r.0 r.1.0;
        above = subst (λ z. Contains (above_of z) r.0) (sym at) (contained r.0 (w.class.superclass ∷ w.class.interfaces) r.1.0);
        is = r.1.1;
      }

  step_up : (k : ℕ) → k < length p.types → (v : Text) → In v (own_above (named p) (type_at p k)) → Step k v
  step_up k lt v i = by (class_named (named p) (type_at p k)) refl i
    where
      by : (x : Option NamedClass) → class_named (named p) (type_at p k) ≡ x → In v (elim x as (λ x. List Text) [ Some c ↦ c.superclass ∷ c.interfaces | None ↦ [] ]) → Step k v
      by None e i = elim i [ ]
      by (Some c) e i = step_in k lt c e v i

  -- a walk by name is a climb by number
  pub climbs : (n k u : ℕ) → k < length p.types → u < length p.types → walks (own_above (named p)) n (type_at p k) (type_at p u) ≡ true → Climbs p k u
  climbs zero k u hk hu e = subst (Climbs p k) (type_once p (S p o s g) k u hk hu (text_sound (type_at p k) (type_at p u) e)) (Climbs.Itself k)
  climbs (suc n) k u hk hu e = by (text_eq (type_at p k) (type_at p u)) refl e (λ j hj w. climbs n j u hj hu w)
    where
      by : (b : Bool) → text_eq (type_at p k) (type_at p u) ≡ b → choice b (list_any (λ x. walks (own_above (named p)) n x (type_at p u)) (own_above (named p) (type_at p k))) ≡ true
          → ((j : ℕ) → j < length p.types → walks (own_above (named p)) n (type_at p j) (type_at p u) ≡ true → Climbs p j u) → Climbs p k u
      by true i w ih = subst (Climbs p k) (type_once p (S p o s g) k u hk hu (text_sound (type_at p k) (type_at p u) i)) (Climbs.Itself k)
      by false i w ih =
          let r = any_where (λ x. walks (own_above (named p)) n x (type_at p u)) (own_above (named p) (type_at p k)) w in
          let t = step_up k hk r.0 r.1.0 in
          climb_on p k t.next u hk t.above (ih t.next t.short (subst (λ z. walks (own_above (named p)) n z (type_at p u) ≡ true) (sym t.is) r.1.1))

  -- ---- the number of Object

  abbrev is_object : ℕ → Bool
  is_object n = same_text (string_text p n) object_text

  type_text_at : (k n : ℕ) → slice_get p.types k ≡ Some n → type_at p k ≡ string_text p n
  type_text_at k n e = ap (λ x. elim x as (λ x. Text) [ Some t ↦ text_at p t | None ↦ [] ]) e ∙ text_same p n

  pub object_found : (k : ℕ) → k < length p.types → type_at p k ≡ object_type → object_number p ≡ k
  object_found k lt e =
      let x = entry_at p.types k lt in
      let f = place_first is_object p.types k x.0 x.1 (ap (λ t. same_text t object_text) (sym (type_text_at k x.0 x.1) ∙ e) ∙ walk.text_same object_text) in
      let r = place_entry is_object p.types f.place f.is in
      ap or_none f.is ∙ type_once p (S p o s g) f.place k (got_short p.types f.place r.entry r.is) lt (type_text_at f.place r.entry r.is ∙ text_sound (string_text p r.entry) object_text r.passes ∙ sym e)

  -- a type of another name has another number
  not_object : (k : ℕ) → k < length p.types → text_eq (type_at p k) object_type ≡ false → nat_eq k (object_number p) ≡ false
  not_object k lt away = by (position is_object p.types) refl
    where
      by_number : (i : ℕ) (b : Bool) → position is_object p.types ≡ Some i → nat_eq k i ≡ b → nat_eq k i ≡ false
      by_number i false e h = h
      by_number i true e h =
          let r = place_entry is_object p.types i e in
          let same : type_at p k ≡ object_type = ap (type_at p) (number_of k i h) ∙ type_text_at i r.entry r.is ∙ text_sound (string_text p r.entry) object_text r.passes in
          clash (text_eq (type_at p k) object_type) (ap (λ t. text_eq t object_type) same ∙ walk.text_same object_type) away

      by : (x : Option ℕ) → position is_object p.types ≡ x → nat_eq k (or_none (position is_object p.types)) ≡ false
      by None e = let few = few_types p g.formed in ap (λ x. nat_eq k (or_none x)) e ∙ other_number k 4294967295 (omega (arith, lt, few))
      by (Some i) e = ap (λ x. nat_eq k (or_none x)) e ∙ by_number i (nat_eq k i) e refl

  pub object_is : g.closed.tables.object ≡ object_number p
  object_is = let few = few_types p g.formed in g.closed.are.object (omega (arith, few))

  -- ---- what stands outside

  undefined_class : (k : ℕ) → k < length p.types → defines (named p) (type_at p k) ≡ false → is_some (class_of p k) ≡ false
  undefined_class k lt away = by (class_place p k) refl
    where
      by_class : (i : ℕ) (x : Option Class) → class_place p k ≡ Some i → slice_get p.classes i ≡ x → is_some x ≡ false
      by_class i None e f = refl
      by_class i (Some c) e f =
          let is : class_named (named p) (type_at p k) ≡ Some (named_class p c) = class_by_number p (S p o s g) k lt ∙ ap (option_and_then (class_at p)) e ∙ ap (option_map (named_class p)) f in
          clash (defines (named p) (type_at p k)) (defined (named p) (type_at p k) (named_class p c) is) away

      by : (x : Option ℕ) → class_place p k ≡ x → is_some (option_and_then (slice_get p.classes) (class_place p k)) ≡ false
      by None e = ap (λ x. is_some (option_and_then (slice_get p.classes) x)) e
      by (Some i) e = ap (λ x. is_some (option_and_then (slice_get p.classes) x)) e ∙ by_class i (slice_get p.classes i) e refl

  both : (a b : Bool) → a ≡ false → b ≡ false → (not a && not b) ≡ true
  both false false e f = refl
  both true b e f = absurd (true≢false e)
  both false true e f = absurd (true≢false f)

  outer_at : (k : ℕ) → k < length p.types → (not (defines (named p) (type_at p k)) && not (text_eq (type_at p k) object_type)) ≡ true → is_outer p g.closed.tables.object k ≡ true
  outer_at k lt e = subst (λ z. is_outer p z k ≡ true) (sym object_is)
      (both (is_some (class_of p k)) (nat_eq k (object_number p))
      (undefined_class k lt (not_false (defines (named p) (type_at p k)) (and_left (not (defines (named p) (type_at p k))) (not (text_eq (type_at p k) object_type)) e)))
      (not_object k lt (not_false (text_eq (type_at p k) object_type) (and_behind (not (defines (named p) (type_at p k))) (not (text_eq (type_at p k) object_type)) e))))

  abbrev touches : Text → Bool
  touches t = not (defines (named p) t) && not (text_eq t object_type)

  pub outward : (n k : ℕ) → k < length p.types → reaches_framework n (named p) (type_at p k) ≡ true → IsOutward p g.closed.tables.object k
  outward zero k lt e = absurd (true≢false (sym e))
  outward (suc n) k lt e = by (class_named (named p) (type_at p k)) refl e (λ j hj w. outward n j hj w)
    where
      more : (c : NamedClass) → class_named (named p) (type_at p k) ≡ Some c → (b : Bool) → touches_framework (named p) c ≡ b → (b || list_any (reaches_framework n (named p)) (c.superclass ∷ c.interfaces)) ≡ true
          → ((j : ℕ) → j < length p.types → reaches_framework n (named p) (type_at p j) ≡ true → IsOutward p g.closed.tables.object j) → IsOutward p g.closed.tables.object k
      more c is true h e ih =
          let r = any_where touches (c.superclass ∷ c.interfaces) h in
          let t = step_in k lt c is r.0 r.1.0 in
          record { top = t.next; climbs = climb_on p k t.next t.next lt t.above (Climbs.Itself t.next); short = t.short; outer = outer_at t.next t.short (ap touches t.is ∙ r.1.1) }
      more c is false h e ih =
          let r = any_where (reaches_framework n (named p)) (c.superclass ∷ c.interfaces) e in
          let t = step_in k lt c is r.0 r.1.0 in
          let w = ih t.next t.short (ap (reaches_framework n (named p)) t.is ∙ r.1.1) in
          record { top = w.top; climbs = climb_on p k t.next w.top lt t.above w.climbs; short = w.short; outer = w.outer }

      by : (x : Option NamedClass) → class_named (named p) (type_at p k) ≡ x
          → elim x as (λ x. Bool) [ Some c ↦ touches_framework (named p) c || list_any (reaches_framework n (named p)) (c.superclass ∷ c.interfaces) | None ↦ false ] ≡ true
          → ((j : ℕ) → j < length p.types → reaches_framework n (named p) (type_at p j) ≡ true → IsOutward p g.closed.tables.object j) → IsOutward p g.closed.tables.object k
      by None is e ih = absurd (true≢false (sym e))
      by (Some c) is e ih = more c is (touches_framework (named p) c) refl e ih
