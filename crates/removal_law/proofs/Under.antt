-- What stands above a live type is the same in what is left.
use Rattle.std.proofs.Common.{◌≡◌, ℕ, zero, suc, ◌+◌, ◌≤◌, Bool, true, false, List, [], ◌∷◌, ◌++◌, length, refl, sym, ap, ◌∙◌, arith, subst}
use Rattle.std.specs.Prelude.{◌||◌, ◌&&◌, not, Option, Some, None, map, nat_eq}
use Rattle.std.specs.List.{list_any}
use Rattle.std.specs.Option.{option_map}
use Rattle.std.proofs.lemmas.List.{length-map, length-append}
use Rattle.dalvik_defs.specs.Names.{Text, text_eq, is_array, is_reference, base_of, object_type}
use Rattle.dalvik_defs.specs.Known.{known_rows}
use Rattle.dalvik_defs.specs.Under.{class_named, defines, row_named, outer_type, above_row, above_in, directly_above, walks, walk_bound, class_under, under_types, is_under}
use Rattle.dalvik_defs.specs.Shown.{named_by}
use Rattle.dalvik_defs.specs.declared.program.NamedClass.{NamedClass}
use Rattle.dalvik_defs.specs.declared.program.NamedProgram.{NamedProgram}
use Rattle.dalvik_defs.specs.declared.tables.FrameworkType.{FrameworkType}
use Rattle.dalvik_defs.specs.declared.tables.Framework.{Framework}
use Rattle.dalvik_defs.proofs.Calm.{text_sound}
use Rattle.pass_defs.specs.Live.{Family, KeepsAbove}
use Rattle.removal_law.specs.Left.{left_in, left_of, NamesNone}
use Rattle.removal_law.proofs.Lists.{clash, In, here, there, none_in, in_front, in_back, in_map, found_in, not_found, contained}
use Rattle.removal_law.proofs.Walks.{choice, choice_false, text_same, same_walks, enough}
use Rattle.removal_law.proofs.Classes.{Kept, class_left, left_less, fewer}

-- ---- arrays

abbrev pick : {A : Type 0} → Bool → A → A → A
pick b x y = elim b [ true ↦ x | false ↦ y ]

-- two orders of class types that agree at the base of a type
pub same_types : (under other : Text → Text → Bool) (s t : Text) → ((v : Text) → under (base_of s) v ≡ other (base_of s) v) → under_types under s t ≡ under_types other s t
same_types under other [] t h = refl
same_types under other (u ∷ s) [] h = refl
same_types under other (u ∷ s) (v ∷ t) h = by (nat_eq u 91) h (same_types under other s t)
  where
    by : (b : Bool) → ((w : Text) → under (pick b (base_of s) (u ∷ s)) w ≡ other (pick b (base_of s) (u ∷ s)) w)
        → (((w : Text) → under (base_of s) w ≡ other (base_of s) w) → under_types under s t ≡ under_types other s t)
        → pick b (text_eq (u ∷ s) (v ∷ t) || text_eq (v ∷ t) object_type || (is_array (v ∷ t) && is_reference s && is_reference t && under_types under s t)) (not (is_array (v ∷ t)) && under (u ∷ s) (v ∷ t))
        ≡ pick b (text_eq (u ∷ s) (v ∷ t) || text_eq (v ∷ t) object_type || (is_array (v ∷ t) && is_reference s && is_reference t && under_types other s t)) (not (is_array (v ∷ t)) && other (u ∷ s) (v ∷ t))
    by true h ih = ap (λ x. text_eq (u ∷ s) (v ∷ t) || text_eq (v ∷ t) object_type || (is_array (v ∷ t) && is_reference s && is_reference t && x)) (ih h)
    by false h ih = ap (λ x. not (is_array (v ∷ t)) && x) (h (v ∷ t))

-- ---- types that the program doesn't define

module _ (p : NamedProgram) (f : Framework) (none : NamesNone p f) where
  q_none : (t : Text) (s : Family) → defines p t ≡ false → defines (left_of s p) t ≡ false
  q_none t s e = ap (λ o. elim o [ Some c ↦ true | None ↦ false ]) (left_less s p t e)

  outer_itself : (q : NamedProgram) (t : Text) → defines q t ≡ false → outer_type q t ≡ t
  outer_itself q t e = ap (λ b. elim b [ true ↦ object_type | false ↦ t ]) e

module _ (p : NamedProgram) (f : Framework) (none : NamesNone p f) (s : Family) (above : KeepsAbove p s) where
  abbrev q : NamedProgram
  q = left_of s p

  abbrev at : NamedProgram → Text → Option NamedClass → List Text
  at r t o = above_in r f t o

  same_outer : (ts : List Text) → ((u : Text) → In u ts → defines p u ≡ false) → map (outer_type p) ts ≡ map (outer_type q) ts
  same_outer [] h = refl
  same_outer (t ∷ ts) h =
      let e = h t (here ts) in
      ap (λ u. u ∷ map (outer_type p) ts) (outer_itself p f none p t e ∙ sym (outer_itself p f none q t (q_none p f none t s e)))
      ∙ ap (λ us. outer_type q t ∷ us) (same_outer ts (λ u c. h u (there t ts c)))

  same_row : (t : Text) (o : Option FrameworkType) → row_named f t ≡ o → above_row p t o ≡ above_row q t o
  same_row t None e = refl
  same_row t (Some r) e = let r' = found_in (λ r. text_eq r.name t) (known_rows ++ f.rows) r e in
      same_outer (r.superclass ∷ r.interfaces) (λ u c. none_in (defines p) (named_by r) (none.rows r r'.is_in) u (there r.name (r.superclass ∷ r.interfaces) c))

  same_none : (t : Text) (b : Bool) → pick b [] (above_row p t (row_named f t)) ≡ pick b [] (above_row q t (row_named f t))
  same_none t true = refl
  same_none t false = same_row t (row_named f t) refl

  same_at : (t : Text) (o : Option NamedClass) → at p t o ≡ at q t (option_map (left_in s) o)
  same_at t None = same_none t (text_eq t object_type)
  same_at t (Some c) = refl

  pub above_same : (t : Text) → Kept s p t → directly_above p f t ≡ directly_above q f t
  above_same t h = same_at t (class_named p t) ∙ ap (at q t) (sym (class_left s p t h))

  undefined_ok : (t : Text) → defines p t ≡ false → Kept s p t
  undefined_ok t e i = clash (defines p t) i e

  outer_ok : (u : Text) (b : Bool) → defines p u ≡ b → Kept s p (pick b object_type u)
  outer_ok u true e = undefined_ok object_type none.object
  outer_ok u false e = undefined_ok u e

  rows_ok : (ts : List Text) (u : Text) → In u (map (outer_type p) ts) → Kept s p u
  rows_ok [] u c = elim c [ ]
  rows_ok (t ∷ ts) u (here xs) = outer_ok t (defines p t) refl
  rows_ok (t ∷ ts) u (there y xs c) = rows_ok ts u c

  row_ok : (t u : Text) (o : Option FrameworkType) → In u (above_row p t o) → Kept s p u
  row_ok t u (Some r) c = rows_ok (r.superclass ∷ r.interfaces) u c
  row_ok t u None (here xs) = undefined_ok object_type none.object
  row_ok t u None (there y xs c) = elim c [ ]

  none_ok : (t u : Text) (b : Bool) → In u (pick b [] (above_row p t (row_named f t))) → Kept s p u
  none_ok t u true c = elim c [ ]
  none_ok t u false c = row_ok t u (row_named f t) c

  at_ok : (t u : Text) (o : Option NamedClass) → class_named p t ≡ o → Kept s p t → In u (at p t o) → Kept s p u
  at_ok t u None e h c = none_ok t u (text_eq t object_type) c
  at_ok t u (Some d) e h c = λ i. above.above t d e (h (ap (λ o. elim o [ Some c ↦ true | None ↦ false ]) e)) u (contained u (d.superclass ∷ d.interfaces) c) i

  above_ok : (t u : Text) → Kept s p t → In u (directly_above p f t) → Kept s p u
  above_ok t u h c = at_ok t u (class_named p t) refl h c

  -- ---- as many steps as there are types

  abbrev types : List Text
  types = map (λ c. c.name) q.classes ++ (map (λ r. r.name) (known_rows ++ f.rows) ++ object_type ∷ [])

  types_long : length types + 1 ≡ walk_bound q f
  types_long =
      let a : length types ≡ length (map (λ c. c.name) q.classes) + length (map (λ r. r.name) (known_rows ++ f.rows) ++ object_type ∷ []) = length-append (map (λ c. c.name) q.classes) (map (λ r. r.name) (known_rows ++ f.rows) ++ object_type ∷ []) in
      let b : length (map (λ r. r.name) (known_rows ++ f.rows) ++ object_type ∷ []) ≡ length (map (λ r. r.name) (known_rows ++ f.rows)) + 1 = length-append (map (λ r. r.name) (known_rows ++ f.rows)) (object_type ∷ []) in
      let c : length (map (λ c. c.name) q.classes) ≡ length q.classes = length-map q.classes (λ c. c.name) in
      let d : length (map (λ r. r.name) (known_rows ++ f.rows)) ≡ length (known_rows ++ f.rows) = length-map (known_rows ++ f.rows) (λ r. r.name) in
      omega (arith, a, b, c, d)

  not_same : (x t : Text) → (x ≡ t → ⊥) → text_eq x t ≡ false
  not_same x t ne = by (text_eq x t) refl
    where
      by : (b : Bool) → text_eq x t ≡ b → text_eq x t ≡ false
      by true e = absurd (ne (text_sound x t e))
      by false e = e

  module _ (t : Text) (away : In t types → ⊥) where
    no_class : class_named q t ≡ None
    no_class = not_found (λ c. text_eq c.name t) q.classes (λ c i. not_same c.name t (λ e. away (in_front t (map (λ c. c.name) q.classes) (map (λ r. r.name) (known_rows ++ f.rows) ++ object_type ∷ [])
        (subst (λ x. In x (map (λ c. c.name) q.classes)) e (in_map (λ c. c.name) c q.classes i)))))

    no_row : row_named f t ≡ None
    no_row = not_found (λ r. text_eq r.name t) (known_rows ++ f.rows) (λ r i. not_same r.name t (λ e. away (in_back t (map (λ c. c.name) q.classes) (map (λ r. r.name) (known_rows ++ f.rows) ++ object_type ∷ [])
        (in_front t (map (λ r. r.name) (known_rows ++ f.rows)) (object_type ∷ []) (subst (λ x. In x (map (λ r. r.name) (known_rows ++ f.rows))) e (in_map (λ r. r.name) r (known_rows ++ f.rows) i))))))

    no_object : text_eq t object_type ≡ false
    no_object = not_same t object_type (λ e. away (in_back t (map (λ c. c.name) q.classes) (map (λ r. r.name) (known_rows ++ f.rows) ++ object_type ∷ [])
        (in_back t (map (λ r. r.name) (known_rows ++ f.rows)) (object_type ∷ []) (subst (λ x. In x (object_type ∷ [])) (sym e) (here [])))))

    only_object : directly_above q f t ≡ object_type ∷ []
    only_object = ap (at q t) no_class ∙ ap (λ b. pick b [] (above_row q t (row_named f t))) no_object ∙ ap (above_row q t) no_row

  object_above : directly_above q f object_type ≡ []
  object_above = ap (at q object_type) (left_less s p object_type none.object) ∙ ap (λ b. pick b [] (above_row q object_type (row_named f object_type))) (text_same object_type)

  object_walks : (k : ℕ) (t : Text) → walks (directly_above q f) k object_type t ≡ text_eq object_type t
  object_walks zero t = refl
  object_walks (suc k) t = ap (λ us. choice (text_eq object_type t) (list_any (λ u. walks (directly_above q f) k u t) us)) object_above ∙ choice_false (text_eq object_type t)

  leaf_walks : (x t : Text) → (In x types → ⊥) → (k : ℕ) → walks (directly_above q f) (suc k) x t ≡ choice (text_eq x t) (text_eq object_type t || false)
  leaf_walks x t away k = ap (λ us. choice (text_eq x t) (list_any (λ u. walks (directly_above q f) k u t) us)) (only_object x away) ∙ ap (λ b. choice (text_eq x t) (b || false)) (object_walks k t)

  leaf : (t x : Text) → (In x types → ⊥) → (k : ℕ) → 1 ≤ k → walks (directly_above q f) (suc k) x t ≡ walks (directly_above q f) k x t
  leaf t x away zero le = absurd (omega (arith, le))
  leaf t x away (suc k) le = leaf_walks x t away (suc k) ∙ sym (leaf_walks x t away k)

  class_same : (t u : Text) → Kept s p t → class_under p f t u ≡ class_under q f t u
  class_same t u h =
      let more : length q.classes ≤ length p.classes = fewer s p.classes in
      let long = types_long in
      same_walks (directly_above p f) (directly_above q f) (Kept s p) above_same above_ok (walk_bound p f) t u h
      ∙ enough (directly_above q f) u types 1 (leaf u) (walk_bound p f) (walk_bound q f) (omega (arith, long, more)) (omega (arith, long)) t

  -- what is under what
  pub under_same : (t u : Text) → Kept s p (base_of t) → is_under p f t u ≡ is_under q f t u
  under_same t u h = same_types (class_under p f) (class_under q f) t u (λ v. class_same (base_of t) v h)
