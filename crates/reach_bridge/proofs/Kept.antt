-- What marks leave of a program is what is left of it by the names of the marked numbers.
use Rattle.std.proofs.Common.{◌≡◌, ℕ, zero, suc, ◌<◌, Bool, true, false, List, [], ◌∷◌, length, refl, sym, ap, ◌∙◌, subst, arith}
use Rattle.std.specs.Prelude.{◌&&◌, ◌||◌, cond, Some, map, filter, slice_get, nat_eq}
use Rattle.lemmas.proofs.Bools.{and_false, or_none}
use Rattle.lemmas.proofs.Lists.{got_short}
use Rattle.program_model.specs.declared.program.Field.{Field}
use Rattle.program_model.specs.declared.program.Method.{Method}
use Rattle.program_model.specs.declared.program.Class.{Class}
use Rattle.program_model.specs.declared.program.Program.{Program}
use Rattle.program_model.specs.ProgramRules.{is_well_formed}
use Rattle.class_defs.proofs.WellFormed.{Sound, sound, class_parts}
use Rattle.class_defs.proofs.Positions.{same_test, number_test, number_of}
use Rattle.call_graph.specs.declared.live_set.LiveSet.{LiveSet}
use Rattle.reach.specs.Kept.{is_marked, kept_in, live_classes, kept_of}
use Rattle.dalvik_defs.specs.Names.{text_eq, method_eq, field_eq}
use Rattle.dalvik_defs.specs.Naming.{type_at, field_at, method_at, named_field, named_method, named_class, named}
use Rattle.dalvik_defs.specs.Silence.{key_in}
use Rattle.dalvik_defs.specs.declared.names.FieldKey.{FieldKey}
use Rattle.dalvik_defs.proofs.Calm.{text_sound}
use Rattle.name_bridge.proofs.Tables.{method_once, field_once, field_is}
use Rattle.name_bridge.proofs.Classes.{type_test}
use Rattle.class_defs.specs.ClassGraph.{IsTwice, IsAncestor}
use Rattle.dalvik_defs.specs.Outer.{Outer}
use Rattle.dalvik_defs.specs.Shown.{SameShown}
use Rattle.pass_defs.specs.Typed.{IsTyped}
use Rattle.removal_law.specs.Reach.{IsSoundTable}
use Rattle.pass_defs.specs.Live.{Family, Conditions, IsClosedFamily}
use Rattle.removal_law.specs.Left.{field_key, left_in, left_of}
use Rattle.removal_law.proofs.Lists.{clash, and_left, and_behind}
use Rattle.removal_law.proofs.Walks.{text_same}
use Rattle.removal_law.proofs.Declared.{method_sound, method_same}
use Rattle.removal_bridge.proofs.Formed.{method_of, key_of, entry_below, removed_program}
use Rattle.reach_bridge.specs.Names.{any_below, family_of}
use Rattle.reach_bridge.proofs.Tables.{class_same}

-- ---- lists

map_map : {A B C : Type 0} (f : B → C) (g : A → B) (xs : List A) → map f (map g xs) ≡ map (λ x. f (g x)) xs
map_map f g [] = refl
map_map f g (x ∷ xs) = ap (λ ys. f (g x) ∷ ys) (map_map f g xs)

-- renaming what is marked is keeping what is renamed
map_filter : {A B C : Type 0} (h : A → C) (l : B → C) (g : A → B) (mark : A → Bool) (keep : B → Bool) (xs : List A)
    → ((j : ℕ) (x : A) → slice_get xs j ≡ Some x → (h x ≡ l (g x)) × (keep (g x) ≡ mark x)) → map h (filter mark xs) ≡ map l (filter keep (map g xs))
map_filter h l g mark keep [] e = refl
map_filter h l g mark keep (x ∷ xs) e = by (mark x) refl (map_filter h l g mark keep xs (λ j y i. e (suc j) y i))
  where
    both : (b : Bool) → map h (filter mark xs) ≡ map l (filter keep (map g xs)) → map h (cond b (x ∷ filter mark xs) (filter mark xs)) ≡ map l (cond b (g x ∷ filter keep (map g xs)) (filter keep (map g xs)))
    both true r = ap (λ y. y ∷ map h (filter mark xs)) (e 0 x refl).0 ∙ ap (λ ys. l (g x) ∷ ys) r
    both false r = r

    by : (b : Bool) → mark x ≡ b → map h (filter mark xs) ≡ map l (filter keep (map g xs)) → map h (filter mark (x ∷ xs)) ≡ map l (filter keep (map g (x ∷ xs)))
    by b i r = both (mark x) r ∙ sym (ap (λ b. map l (cond b (g x ∷ filter keep (map g xs)) (filter keep (map g xs)))) (e 0 x refl).1)

map_itself : {A : Type 0} (xs : List A) → map (λ x. x) xs ≡ xs
map_itself [] = refl
map_itself (x ∷ xs) = ap (λ ys. x ∷ ys) (map_itself xs)

-- ---- the one number that passes

any_none : (n : ℕ) (t : ℕ → Bool) → ((k : ℕ) → k < n → t k ≡ false) → any_below n t ≡ false
any_none zero t h = refl
any_none (suc n) t h = ap (λ b. b || any_below n t) (h n (omega arith)) ∙ any_none n t (λ k lt. h k (omega (arith, lt)))

pub other_number : (k j : ℕ) → k < j → nat_eq k j ≡ false
other_number k j lt = by (nat_eq k j) refl
  where
    by : (b : Bool) → nat_eq k j ≡ b → nat_eq k j ≡ false
    by true e = let i = number_of k j e in absurd (omega (arith, lt, i))
    by false e = e

and_true : (b : Bool) → (b && true) ≡ b
and_true true = refl
and_true false = refl

any_is : (n : ℕ) (m e : ℕ → Bool) (j : ℕ) → j < n → ((k : ℕ) → k < n → e k ≡ nat_eq k j) → any_below n (λ k. m k && e k) ≡ m j
any_is zero m e j lt h = absurd (omega (arith, lt))
any_is (suc n) m e j lt h = by (nat_eq n j) refl (λ l. any_is n m e j l (λ k i. h k (omega (arith, i))))
  where
    by : (b : Bool) → nat_eq n j ≡ b → (j < n → any_below n (λ k. m k && e k) ≡ m j) → any_below (suc n) (λ k. m k && e k) ≡ m j
    by true i ih = let same = number_of n j i in
        ap (λ b. (m n && b) || any_below n (λ k. m k && e k)) (h n (omega arith) ∙ i)
        ∙ ap (λ b. (m n && true) || b) (any_none n (λ k. m k && e k) (λ k l. ap (λ b. m k && b) (h k (omega (arith, l)) ∙ other_number k j (subst (λ z. k < z) same l)) ∙ and_false (m k)))
        ∙ or_none (m n && true) ∙ and_true (m n) ∙ ap m same
    by false i ih = ap (λ b. (m n && b) || any_below n (λ k. m k && e k)) (h n (omega arith) ∙ i) ∙ ap (λ b. b || any_below n (λ k. m k && e k)) (and_false (m n))
        ∙ ih (less n j lt i)
      where
        less : (n j : ℕ) → j < suc n → nat_eq n j ≡ false → j < n
        less n j lt i = by_case (apart n j i)
          where
            apart : (n j : ℕ) → nat_eq n j ≡ false → n ≡ j → ⊥
            apart n j i e = clash (nat_eq n j) (number_test n j e) i

            by_case : (n ≡ j → ⊥) → j < n
            by_case away = omega (arith, lt, away)

-- ---- fields by their names

pub field_sound : (a b : FieldKey) → field_eq a b ≡ true → a ≡ b
field_sound a b e =
    let x : (text_eq a.class b.class && text_eq a.name b.name) ≡ true = and_left (text_eq a.class b.class && text_eq a.name b.name) (text_eq a.kind b.kind) e in
    ap (λ t. record { class = t; name = a.name; kind = a.kind }) (text_sound a.class b.class (and_left (text_eq a.class b.class) (text_eq a.name b.name) x))
    ∙ ap (λ t. record { class = b.class; name = t; kind = a.kind }) (text_sound a.name b.name (and_behind (text_eq a.class b.class) (text_eq a.name b.name) x))
    ∙ ap (λ t. record { class = b.class; name = b.name; kind = t }) (text_sound a.kind b.kind (and_behind (text_eq a.class b.class && text_eq a.name b.name) (text_eq a.kind b.kind) e))

pub field_itself : (k : FieldKey) → field_eq k k ≡ true
field_itself k = ap (λ b. b && text_eq k.name k.name && text_eq k.kind k.kind) (text_same k.class) ∙ ap (λ b. b && text_eq k.kind k.kind) (text_same k.name) ∙ text_same k.kind

module _ (p : Program) (s : LiveSet) (fits : is_well_formed p ≡ true) where
  S : Sound p
  S = sound p fits

  abbrev F : Family
  F = family_of p s

  abbrev q : Program
  q = kept_of s p

  module _ (c : Class) (i : ℕ) (e : slice_get p.classes i ≡ Some c) where
    class_mark : F.classes (type_at p c.name) ≡ is_marked s.classes.items c.name
    class_mark = let l = (class_parts p S i c e).name in
        any_is (length p.types) (is_marked s.classes.items) (λ n. text_eq (type_at p n) (type_at p c.name)) c.name l (λ n lt. type_test p S n c.name lt l)

    method_mark : (j : ℕ) (m : Method) → slice_get c.methods j ≡ Some m → F.methods (key_in (named_class p c) (named_method p m)) ≡ is_marked s.methods.items m.name
    method_mark j m f =
        let g = method_of p fits c i j m e f in
        let l : m.name < length p.methods = entry_below p fits m.name g.entry g.is in
        ap F.methods (sym (key_of p fits c i j m e f))
        ∙ any_is (length p.methods) (is_marked s.methods.items) (λ n. method_eq (method_at p n) (method_at p m.name)) m.name l
        (λ n lt. same_test _ _ (λ h. number_test n m.name (method_once p S n m.name lt l (method_sound (method_at p n) (method_at p m.name) h)))
        (λ h. ap (λ k. method_eq (method_at p k) (method_at p m.name)) (number_of n m.name h) ∙ method_same (method_at p m.name)))

    pub field_name : (j : ℕ) (x : Field) → slice_get c.fields j ≡ Some x → field_at p x.name ≡ field_key (type_at p c.name) (named_field p x)
    field_name j x f = let g = (class_parts p S i c e).fields j x f in
        ap (λ t. record { class = t; name = (field_at p x.name).name; kind = (field_at p x.name).kind }) (ap (λ k. k.class) (field_is p S x.name g.entry g.is) ∙ ap (type_at p) g.owner)

    field_mark : (j : ℕ) (x : Field) → slice_get c.fields j ≡ Some x → F.fields (field_key (type_at p c.name) (named_field p x)) ≡ is_marked s.fields.items x.name
    field_mark j x f =
        let g = (class_parts p S i c e).fields j x f in
        let l : x.name < length p.fields = got_short p.fields x.name g.entry g.is in
        ap F.fields (sym (field_name j x f))
        ∙ any_is (length p.fields) (is_marked s.fields.items) (λ n. field_eq (field_at p n) (field_at p x.name)) x.name l
        (λ n lt. same_test _ _ (λ h. number_test n x.name (field_once p S n x.name lt l (field_sound (field_at p n) (field_at p x.name) h)))
        (λ h. ap (λ k. field_eq (field_at p k) (field_at p x.name)) (number_of n x.name h) ∙ field_itself (field_at p x.name)))

    class_kept : named_class q (kept_in s c) ≡ left_in F (named_class p c)
    class_kept = class_same p (map (kept_in s) (live_classes s p.classes)) (kept_in s c)
        ∙ ap (λ fs. record (named_class p (kept_in s c)) { fields = fs })
        (map_filter (named_field p) (λ x. x) (named_field p) (λ f. is_marked s.fields.items f.name) (λ f. F.fields (field_key (type_at p c.name) f)) c.fields (λ j x f. (refl, field_mark j x f))
        ∙ map_itself (filter (λ f. F.fields (field_key (type_at p c.name) f)) (map (named_field p) c.fields)))
        ∙ ap (λ ms. record (named_class p (kept_in s c)) { fields = filter (λ f. F.fields (field_key (type_at p c.name) f)) (map (named_field p) c.fields); methods = ms })
        (map_filter (named_method p) (λ x. x) (named_method p) (λ m. is_marked s.methods.items m.name) (λ m. F.methods (key_in (named_class p c) m)) c.methods (λ j m f. (refl, method_mark j m f))
        ∙ map_itself (filter (λ m. F.methods (key_in (named_class p c) m)) (map (named_method p) c.methods)))

  kept_classes : map (named_class q) q.classes ≡ map (left_in F) (filter (λ c. F.classes c.name) (map (named_class p) p.classes))
  kept_classes = map_map (named_class q) (kept_in s) (live_classes s p.classes)
      ∙ map_filter (λ c. named_class q (kept_in s c)) (left_in F) (named_class p) (λ c. is_marked s.classes.items c.name) (λ c. F.classes c.name) p.classes (λ i c e. (class_kept c i e, class_mark c i e))

pub kept_named : (p : Program) (s : LiveSet) → is_well_formed p ≡ true → named (kept_of s p) ≡ left_of (family_of p s) (named p)
kept_named p s fits = ap (λ cs. record { version = p.version; classes = cs }) (kept_classes p s fits)

pub removed_by_number : (p : Program) (s : LiveSet) → is_well_formed p ≡ true → ((class : ℕ) → IsTwice p class → ⊥) → ((class : ℕ) → IsAncestor p class class → ⊥) → IsTyped (named p)
    → (o : Outer) (k : Conditions) → IsClosedFamily (named p) o k (family_of p s) → IsSoundTable (named p) o → SameShown (named p) (named (kept_of s p)) o
removed_by_number p s fits twice ancestor typed o k closed table =
    subst (λ q. SameShown (named p) q o) (sym (kept_named p s fits)) (removed_program p fits twice ancestor typed o k (family_of p s) closed table)
