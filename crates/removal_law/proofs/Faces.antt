-- All that a run asks of a program what is left of it answers alike.
use Rattle.std.proofs.Common.{◌≡◌, ◌++◌, ℕ, zero, suc, Bool, true, false, List, [], ◌∷◌, refl, sym, ap, ◌∙◌, subst}
use Rattle.std.specs.Prelude.{Contains, ◌&&◌, ◌||◌, not, Option, Some, None, is_some, slice_get, nat_eq}
use Rattle.std.specs.List.{list_any, list_all}
use Rattle.std.specs.Option.{option_map}
use Rattle.lemmas.proofs.Bools.{and_both}
use Rattle.lemmas.proofs.Options.{none_some, some_same}
use Rattle.dalvik_defs.specs.Names.{Text, text_eq, is_array, base_of, item_of, array_of}
use Rattle.dalvik_defs.specs.Flags.{is_interface, is_abstract}
use Rattle.dalvik_defs.specs.Under.{class_named, defines}
use Rattle.dalvik_defs.specs.Find.{finds_field, defined_field, field_in}
use Rattle.dalvik_defs.specs.Initialised.{initialised_first}
use Rattle.dalvik_defs.specs.Face.{Face, Place, place_of, face_of, bodies_of, is_defined, is_concrete}
use Rattle.dalvik_defs.specs.Outer.{Outer}
use Rattle.dalvik_defs.specs.Legal.{may_make}
use Rattle.dalvik_defs.specs.Shown.{reserved}
use Rattle.dalvik_defs.specs.declared.names.MethodKey.{MethodKey}
use Rattle.dalvik_defs.specs.declared.names.FieldKey.{FieldKey}
use Rattle.dalvik_defs.specs.declared.forms.Form.{Form}
use Rattle.dalvik_defs.specs.declared.forms.Form.TheVariants as form
use Rattle.dalvik_defs.specs.declared.tables.Framework.{Framework}
use Rattle.dalvik_defs.specs.declared.program.NamedBody.{NamedBody}
use Rattle.dalvik_defs.specs.declared.program.NamedField.{NamedField}
use Rattle.dalvik_defs.specs.declared.program.NamedClass.{NamedClass}
use Rattle.dalvik_defs.specs.declared.program.NamedProgram.{NamedProgram}
use Rattle.dalvik_defs.proofs.Calm.{text_sound}
use Rattle.pass_defs.specs.Bare.{may_throw}
use Rattle.pass_defs.specs.Walks.{form_at, onward, caught, handlers_at, successors, Walk, Stays, Goes, IsReached}
use Rattle.pass_defs.specs.Live.{Family, Conditions, IsClosedFamily, KeepsAbove, is_kept_method, is_constructor}
use Rattle.pass_defs.specs.Live as live
use Rattle.pass_defs.specs.Mentions.{types_in, types_of, fields_in, fields_in_body}
use Rattle.removal_law.specs.Left.{left_in, left_of, NamesNone}
use Rattle.removal_law.specs.Agree.{Each, AgreeOnField, sieved}
use Rattle.removal_law.specs.Reach.{OkType, makes_new, may_be_made, MadeType, LiveMethod, Says, LeftAgrees, IsRegular, IsSoundCode, IsSoundTable, is_idle, ReachedAt}
use Rattle.removal_law.proofs.Lists.{clash, In, here, there, contained, none_in, all_in, and_left, and_behind, in_front, in_back}
use Rattle.removal_law.proofs.Classes.{Kept, class_left, dead_found}
use Rattle.removal_law.proofs.Fits.{in_by_test}
use Rattle.removal_law.proofs.Members.{body_left}
use Rattle.removal_law.proofs.Under.{under_same}
use Rattle.removal_law.proofs.Trees.{class_name, defined, undefined}
use Rattle.removal_law.proofs.Finds.{in_flat}
use Rattle.removal_law.proofs.Fields.{finds_left, found_defined, defined_left, dead_field}
use Rattle.removal_law.proofs.Firsts.{initialiser_class, initialiser_left, initialiser_lives, first_left, first_stands}
use Rattle.removal_law.proofs.Declared.{ok_kept, live_ok}
use Rattle.removal_law.proofs.Entered.{declared_agrees}
use Rattle.removal_law.proofs.CallsLeft.{is_made_new, says_type, called_agrees}

-- ---- lists and forms

pub each_in : {A : Type 0} (P : A → Type 0) (xs : List A) → ((x : A) → In x xs → P x) → Each P xs
each_in P [] h = tt
each_in P (x ∷ xs) h = (h x (here xs), each_in P xs (λ y i. h y (there x xs i)))

pub slice_in : {A : Type 0} (xs : List A) (n : ℕ) (x : A) → slice_get xs n ≡ Some x → In x xs
slice_in [] n x e = none_some x e
slice_in (y ∷ xs) zero x e = subst (λ z. In z (y ∷ xs)) (some_same y x e) (here xs)
slice_in (y ∷ xs) (suc n) x e = there y xs (slice_in xs n x e)

-- a walk goes on
walk_on : (next : ℕ → List ℕ) (a n m : ℕ) → Walk next a n → Contains (next n) m → Walk next a m
walk_on next a n m (Stays k) c = Goes k m m c (Stays m)
walk_on next a n m (Goes k j l d w) c = Goes k j m d (walk_on next j n m w c)

-- a form that names a field names its class and its type
abbrev Typed : Form → FieldKey → Type 0
Typed x k = In k.class (types_in x) × In k.kind (types_in x)

one_field : (k d : FieldKey) → In k (d ∷ []) → In k.class (d.class ∷ d.kind ∷ []) × In k.kind (d.class ∷ d.kind ∷ [])
one_field k d (here ys) = (here (k.kind ∷ []), there k.class (k.kind ∷ []) (here []))
one_field k d (there y ys i) = elim i [ ]

pub field_types : (x : Form) (k : FieldKey) → In k (fields_in x) → Typed x k
field_types (form.InstanceGet item to on field) k i = one_field k field i
field_types (form.InstancePut item from on field) k i = one_field k field i
field_types (form.StaticGet item to field) k i = one_field k field i
field_types (form.StaticPut item from field) k i = one_field k field i
field_types form.Nop k i = elim i [ ]
field_types (form.Move slot to from) k i = elim i [ ]
field_types (form.MoveResult slot to) k i = elim i [ ]
field_types (form.MoveException to) k i = elim i [ ]
field_types form.ReturnVoid k i = elim i [ ]
field_types (form.Return slot from) k i = elim i [ ]
field_types (form.Const to value) k i = elim i [ ]
field_types (form.ConstWide to value) k i = elim i [ ]
field_types (form.ConstString to text) k i = elim i [ ]
field_types (form.ConstClass to kind) k i = elim i [ ]
field_types (form.MonitorEnter on) k i = elim i [ ]
field_types (form.MonitorExit on) k i = elim i [ ]
field_types (form.CheckCast on kind) k i = elim i [ ]
field_types (form.InstanceOf to from kind) k i = elim i [ ]
field_types (form.ArrayLength to from) k i = elim i [ ]
field_types (form.NewInstance to kind) k i = elim i [ ]
field_types (form.NewArray to size kind) k i = elim i [ ]
field_types (form.FilledNewArray kind args) k i = elim i [ ]
field_types (form.FillArray on width items) k i = elim i [ ]
field_types (form.Throw on) k i = elim i [ ]
field_types (form.Goto target) k i = elim i [ ]
field_types (form.PackedSwitch on first targets) k i = elim i [ ]
field_types (form.SparseSwitch on keys targets) k i = elim i [ ]
field_types (form.Cmp op to a b) k i = elim i [ ]
field_types (form.If test a b target) k i = elim i [ ]
field_types (form.IfZero test a target) k i = elim i [ ]
field_types (form.ArrayGet item to array index) k i = elim i [ ]
field_types (form.ArrayPut item from array index) k i = elim i [ ]
field_types (form.Invoke kind method args) k i = elim i [ ]
field_types (form.Unary op to from) k i = elim i [ ]
field_types (form.Binary op to a b) k i = elim i [ ]
field_types (form.Literal op to a value) k i = elim i [ ]

-- a type without its brackets has none
pub base_twice : (t : Text) → base_of (base_of t) ≡ base_of t
base_twice [] = refl
base_twice (x ∷ us) = by (nat_eq x 91) refl (base_twice us)
  where
    by : (b : Bool) → nat_eq x 91 ≡ b → base_of (base_of us) ≡ base_of us
        → base_of (elim b as (λ b. Text) [ true ↦ base_of us | false ↦ x ∷ us ]) ≡ (elim b as (λ b. Text) [ true ↦ base_of us | false ↦ x ∷ us ])
    by true e h = h
    by false e h = ap (λ b. elim b as (λ b. Text) [ true ↦ base_of us | false ↦ x ∷ us ]) e

pub item_base : (t : Text) → is_array t ≡ true → base_of (item_of t) ≡ base_of t
item_base [] e = clash false e refl
item_base (x ∷ us) e = sym (ap (λ b. elim b as (λ b. Text) [ true ↦ base_of us | false ↦ x ∷ us ]) e)

plain_names : list_all (λ t. text_eq (base_of t) t) reserved ≡ true
plain_names = refl

or_second : (a b : Bool) → (not a || b) ≡ true → a ≡ true → b ≡ true
or_second true b e i = e
or_second false b e i = clash false i refl

module _ (p : NamedProgram) (o : Outer) (kept : Conditions) (s : Family) (f : Framework) (closed : IsClosedFamily p o kept s) (regular : IsRegular p) (code : IsSoundCode p) (table : IsSoundTable p o)
    (none : NamesNone p f) (unreserved : list_any (defines p) reserved ≡ false) where
  abbrev q : NamedProgram
  q = left_of s p

  abbrev F : Face
  F = face_of p f

  abbrev G : Face
  G = sieved (is_idle p) (face_of (left_of s p) f)

  above : KeepsAbove p s
  above = closed.above

  kept_of : (t : Text) → OkType p s t → Kept s p t
  kept_of = ok_kept p o kept s f closed regular code table none

  live_of : (t : Text) → defines p t ≡ true → s.classes t ≡ true → OkType p s t
  live_of = live_ok p o kept s f closed regular code table none

  says_of : (m : MethodKey) (x : Form) → Says p s m x → (t : Text) → In t (types_in x) → OkType p s t
  says_of = says_type p o kept s f closed regular code table none

  -- ---- types

  flags_of : Option NamedClass → Option ℕ
  flags_of x = option_map (λ c. c.flags) x

  flags_left : (x : Option NamedClass) → option_map (λ c. c.flags) x ≡ option_map (λ c. c.flags) (option_map (left_in s) x)
  flags_left None = refl
  flags_left (Some c) = refl

  flags_kept : (t : Text) → Kept s p t → F.flags t ≡ G.flags t
  flags_kept t h = flags_left (class_named p t) ∙ sym (ap (option_map (λ c. c.flags)) (class_left s p t h))

  known_type : (t : Text) → list_any (text_eq t) reserved ≡ true → OkType p s t × MadeType p o s t
  known_type t e = (λ d. clash (defines p t) (ap (defines p) (sym plain) ∙ d) away, λ d. clash (defines p t) d away)
    where
      i : In t reserved
      i = in_by_test t reserved e

      away : defines p t ≡ false
      away = none_in (defines p) reserved unreserved t i

      plain : base_of t ≡ t
      plain = text_sound (base_of t) t (all_in (λ t. text_eq (base_of t) t) reserved plain_names t i)

  kept_class : (t : Text) → defines p t ≡ true → o.classes t ≡ true → s.classes t ≡ true
  kept_class t d e = closed.kept.classes t d (ap (λ b. b || list_any (λ c. kept.classes t c.name && s.classes c.name) p.classes) e)

  -- a class of which a constructor is kept
  constructor_kept : (t : Text) → o.constructed t ≡ true → (k : MethodKey) × ((k.class ≡ t) × ((is_constructor k ≡ true) × (is_kept_method o kept s k ≡ true)))
  constructor_kept t e =
      let w = table.inside.constructed t e in (
        w.0,
        (
          text_sound w.0.class t (and_left (text_eq w.0.class t) (is_constructor w.0) w.1.1),
          (and_behind (text_eq w.0.class t) (is_constructor w.0) w.1.1, ap (λ b. b || (kept.methods w.0 && s.classes w.0.class)) w.1.0),
        ),
      )

  reached_class : (t : Text) → defines p t ≡ true → (o.classes t || o.constructed t) ≡ true → s.classes t ≡ true
  reached_class t d e = by (o.classes t) refl e
    where
      by : (b : Bool) → o.classes t ≡ b → (b || o.constructed t) ≡ true → s.classes t ≡ true
      by true i j = kept_class t d i
      by false i j = let w = constructor_kept t j in ap s.classes (sym w.1.0) ∙ closed.kept.constructors w.0 (ap (defines p) w.1.0 ∙ d) w.1.1.0 w.1.1.1

  or_front : (a b c : Bool) → (a || b) ≡ true → (a || b || c) ≡ true
  or_front true b c e = refl
  or_front false true c e = refl
  or_front false false c e = clash false e refl

  or_end : (a b c : Bool) → c ≡ true → (a || b || c) ≡ true
  or_end true b c e = refl
  or_end false true c e = refl
  or_end false false c e = e

  reached_made : (t : Text) → live.is_concrete p t ≡ true → (o.classes t || o.constructed t) ≡ true → (s.made t ≡ true) × (may_be_made p o t ≡ true)
  reached_made t d e = (by (o.classes t) refl e, and_both (live.is_concrete p t) (o.classes t || o.constructed t || makes_new p t) d (or_front (o.classes t) (o.constructed t) (makes_new p t) e))
    where
      by : (b : Bool) → o.classes t ≡ b → (b || o.constructed t) ≡ true → s.made t ≡ true
      by true i j = closed.made.kept t d (ap (λ b. b || list_any (λ c. kept.classes t c.name && s.classes c.name) p.classes) i)
      by false i j = let w = constructor_kept t j in ap s.made (sym w.1.0) ∙ closed.made.constructed w.0 (ap (live.is_concrete p) w.1.0 ∙ d) w.1.1.0 w.1.1.1

  given_type : (t : Text) → (not (defines p (base_of t)) || o.classes (base_of t)) ≡ true → OkType p s t
  given_type t e = λ d. kept_class (base_of t) d (or_second (defines p (base_of t)) (o.classes (base_of t)) e d)

  undefined_made : (t : Text) → is_defined F t ≡ false → MadeType p o s t
  undefined_made t e = λ d. by (class_named p t) refl e d
    where
      by : (x : Option NamedClass) → class_named p t ≡ x → is_some (option_map (λ c. c.flags) x) ≡ false → (elim (class_named p t) as (λ x. Bool) [ Some c ↦ true | None ↦ false ]) ≡ true
          → (s.made t ≡ true) × (may_be_made p o t ≡ true)
      by None i a d = clash (defines p t) d (undefined p t i)
      by (Some c) i a d = clash true refl a

  -- ---- what live code says

  live_class : (k : MethodKey) → LiveMethod p s k → OkType p s k.class
  live_class k l = live_of k.class l.defined (closed.kept.method_classes k l.live)

  named_types : (k : MethodKey) → LiveMethod p s k → (t : Text) → In t (types_of k.signature) → OkType p s t
  named_types k l t i = closed.types.methods k l.live t (contained t (types_of k.signature) i)

  says_code : (k : MethodKey) (b : NamedBody) (n : ℕ) (x : Form) → LiveMethod p s k → bodies_of p k ≡ Some b → ReachedAt p k n → form_at b n ≡ Some x → Says p s k x
  says_code k b n x l e r i = record { body = b; has = (l.live, e); defined = l.defined; place = n; reached = r b e; at_place = i; stands = slice_in b.forms n x i }

  -- positions
  step_of : (k : MethodKey) (b : NamedBody) (n m : ℕ) (f : Form) → bodies_of p k ≡ Some b → ReachedAt p k n → form_at b n ≡ Some f → In m (onward f n ++ caught b f n) → ReachedAt p k m
  step_of k b n m f e r i j = λ d a. subst (λ x. IsReached x m) (some_same b d (sym e ∙ a)) (walk_on (successors b) 0 n m (r b e)
      (contained m (successors b n) (subst (In m) (sym (ap (λ o. elim o as (λ o. List ℕ) [ Some f ↦ onward f n ++ caught b f n | None ↦ [] ]) i)) j)))

  caught_in : (b : NamedBody) (n m : ℕ) (f : Form) → may_throw f ≡ true → In m (handlers_at b n) → In m (caught b f n)
  caught_in b n m f e i = subst (λ x. In m (elim x as (λ x. List ℕ) [ true ↦ handlers_at b n | false ↦ [] ])) (sym e) i

  new_type : (m : MethodKey) (to : ℕ) (t : Text) → Says p s m (form.NewInstance to t) → OkType p s t × MadeType p o s t
  new_type m to t a = (
    says_of m (form.NewInstance to t) a t (here []),
    λ d. (
      closed.made.news m a.body to t a.has (contained (form.NewInstance to t) a.body.forms a.stands) (concrete d),
      and_both (live.is_concrete p t) (o.classes t || o.constructed t || makes_new p t) (concrete d) (or_end (o.classes t) (o.constructed t) (makes_new p t) (is_made_new p m a.body to t a.has.1 a.stands)),
    ),
  )
    where
      concrete : defines p t ≡ true → live.is_concrete p t ≡ true
      concrete d = code.objects m a.body a.place to t a.has.1 a.reached a.at_place d

  item_type : (t : Text) → is_array t ≡ true → OkType p s t → OkType p s (item_of t)
  item_type t e h = subst (λ x. defines p x ≡ true → s.classes x ≡ true) (sym (item_base t e)) h

  -- ---- fields

  field_agrees : (m : MethodKey) (x : Form) (k : FieldKey) → Says p s m x → In k (fields_in x) → AgreeOnField (OkType p s) (MadeType p o s) (LiveMethod p s) k (F.field k) (G.field k)
  field_agrees m x k a i = record {
    same = ap (option_map (λ c. place_of c.0 c.1)) (sym (finds_left p s above regular k (kept_of k.class (says_of m x a k.class (field_types x k i).0)) lives));
    kind = says_of m x a k.kind (field_types x k i).1;
    class = λ y e. by (finds_field p k) refl y e;
  }
    where
      lives : (y : Text × NamedField) → finds_field p k ≡ Some y → s.fields (record k { class = y.0 }) ≡ true
      lives y e = closed.resolved.fields m a.body a.has k y (contained k (fields_in_body a.body) (in_flat fields_in x k a.body.forms a.stands i)) e

      by : (z : Option (Text × NamedField)) → finds_field p k ≡ z → (y : Place) → option_map (λ c. place_of c.0 c.1) z ≡ Some y → OkType p s y.class
      by None e y j = none_some y j
      by (Some c) e y j = subst (λ w. OkType p s w.class) (some_same (place_of c.0 c.1) y j)
          (live_of c.0 (found_defined p s above regular k c e) (closed.kept.field_classes (record k { class = c.0 }) (lives c e)))

  field_live : (k : FieldKey) (x : NamedField) → o.fields k ≡ true → defined_field p k ≡ Some x → s.fields k ≡ true
  field_live k x e i = closed.kept.fields k (ap is_some i) (ap (λ b. b || (kept.fields k && s.classes k.class)) e)

  abbrev field_of : FieldKey → Option NamedClass → Option NamedField
  field_of k x = elim x as (λ x. Option NamedField) [ Some c ↦ field_in c k.name k.kind | None ↦ None ]

  own_same : (k : FieldKey) → o.fields k ≡ true → defined_field q k ≡ defined_field p k
  own_same k e = by (s.fields k) refl
    where
      gone : s.fields k ≡ false → (x : Option NamedField) → defined_field p k ≡ x → defined_field p k ≡ None
      gone n None i = i
      gone n (Some x) i = clash (s.fields k) (field_live k x e i) n

      left_in_class : s.fields k ≡ false → (x : Option NamedClass) → class_named p k.class ≡ x → field_of k (option_map (left_in s) x) ≡ None
      left_in_class n None i = refl
      left_in_class n (Some c) i = dead_field s k c (ap (λ t. s.fields (record k { class = t })) (class_name p k.class c i) ∙ n)

      left : s.fields k ≡ false → (b : Bool) → s.classes k.class ≡ b → defined_field q k ≡ None
      left n true l = ap (field_of k) (class_left s p k.class (λ d. l)) ∙ left_in_class n (class_named p k.class) refl
      left n false l = ap (field_of k) (dead_found s k.class l p.classes)

      by : (b : Bool) → s.fields k ≡ b → defined_field q k ≡ defined_field p k
      by true l = defined_left p s above regular k (λ d. closed.kept.field_classes k l) l
      by false n = left n (s.classes k.class) refl ∙ sym (gone n (defined_field p k) refl)

  own_type : (k : FieldKey) (x : Place) → o.fields k ≡ true → F.own_field k ≡ Some x → OkType p s k.kind
  own_type k x e i = by (defined_field p k) refl i
    where
      by : (z : Option NamedField) → defined_field p k ≡ z → option_map (place_of k.class) z ≡ Some x → OkType p s k.kind
      by None j a = none_some x a
      by (Some y) j a = closed.types.fields k (field_live k y e j) k.kind (contained k.kind (k.kind ∷ []) (here []))

  -- ---- objects that the framework makes

  concrete_of : Option ℕ → Bool
  concrete_of x = elim x as (λ x. Bool) [ Some n ↦ not (is_interface n) && not (is_abstract n) | None ↦ false ]

  concrete_same : (t : Text) → (o.classes t || o.constructed t) ≡ true → is_concrete F t ≡ is_concrete G t
  concrete_same t e = ap (λ x. elim x as (λ x. Bool) [ Some n ↦ not (is_interface n) && not (is_abstract n) | None ↦ false ]) (flags_kept t (λ d. reached_class t d e))

  made_type : (t : Text) → may_make F o t ≡ true → OkType p s t × MadeType p o s t
  made_type t e = by (class_named p t) refl (and_behind (o.classes t || o.constructed t) (is_concrete F t) e)
    where
      k : (o.classes t || o.constructed t) ≡ true
      k = and_left (o.classes t || o.constructed t) (is_concrete F t) e

      by : (x : Option NamedClass) → class_named p t ≡ x → (elim (option_map (λ c. c.flags) x) as (λ x. Bool) [ Some n ↦ not (is_interface n) && not (is_abstract n) | None ↦ false ]) ≡ true → OkType p s t × MadeType p o s t
      by None i a = clash false a refl
      by (Some c) i a = (
        live_of t (defined p t c i) (reached_class t (defined p t c i) k),
        λ d. reached_made t (ap (λ x. elim x as (λ x. Bool) [ Some c ↦ not (is_interface c.flags) && not (is_abstract c.flags) | None ↦ false ]) i ∙ a) k,
      )

  -- ---- all of it

  pub agrees : LeftAgrees p o s f
  agrees = record {
    flags = λ t h. flags_kept t (kept_of t h);
    under = λ t u h. under_same p f none s above t u h;
    known = known_type;
    empty = (λ d. clash false (regular.names [] d) refl, λ d. clash false (regular.names [] d) refl);
    array = λ t h. (h, λ d. clash false (regular.names (array_of t) d) refl);
    item = λ t h. h;
    base = λ t h. subst (λ x. defines p x ≡ true → s.classes x ≡ true) (sym (base_twice t)) h;
    new_fits = λ t e. given_type t e;
    new_made = undefined_made;
    array_fits = λ t n e. given_type t e;
    bodies = λ k l. sym (body_left s p k (closed.kept.method_classes k l.live) l.live);
    class_ok = live_class;
    result_ok = λ k l. named_types k l k.signature.result (here k.signature.parameters);
    parameters_ok = λ k l. each_in (OkType p s) k.signature.parameters (λ t i. named_types k l t (there k.signature.result k.signature.parameters i));
    code = says_code;
    entry = λ k b l e. λ d a. Stays 0;
    onwards = λ k b n m f l e r i j. step_of k b n m f e r i (in_front m (onward f n) (caught b f n) j);
    catches = λ k b n m f l e r i y j. step_of k b n m f e r i (in_back m (onward f n) (caught b f n) (caught_in b n m f y j));
    news = new_type;
    arrays = λ m to size t a. item_type t (code.arrays m a.body a.place to size t a.has.1 a.reached a.at_place) (says_of m (form.NewArray to size t) a t (here []));
    filled = λ m args t a. item_type t (code.filled m a.body a.place t args a.has.1 a.reached a.at_place) (says_of m (form.FilledNewArray t args) a t (here []));
    fields = field_agrees;
    calls = λ m kind k args t a ok made. called_agrees p o kept s f closed regular code table none m k args kind t a ok made;
    answers = λ m kind k args a. says_of m (form.Invoke kind k args) a k.signature.result (there k.class (k.signature.result ∷ k.signature.parameters) (here k.signature.parameters));
    initialiser = λ t h. sym (initialiser_left p s above regular t (kept_of t h));
    initialiser_live = λ t k h e. record { live = initialiser_lives p s above regular t k (kept_of t h) e; defined = let r = initialiser_class p s above regular t k e in ap (defines p) r.0 ∙ r.1 };
    first = λ t h. sym (first_left p s above regular t (kept_of t h));
    first_ok = λ t h. each_in (OkType p s) (initialised_first p t) (λ u i. let r = first_stands p s above regular t (kept_of t h) u i in live_of u r.0 r.1);
    declared = λ c n proto. declared_agrees p o kept s f closed regular code table none c n proto;
    makes = concrete_same;
    made_ok = made_type;
    own_field = λ k e. ap (option_map (place_of k.class)) (sym (own_same k e));
    own_kind = own_type;
  }
