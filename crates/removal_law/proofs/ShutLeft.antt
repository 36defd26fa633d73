-- A table of shut methods holds what it says of what is left of a program too.
use Rattle.std.proofs.Common.{◌≡◌, ℕ, Bool, true, false, List, [], ◌∷◌, length, refl, sym, ap, ◌∙◌, subst}
use Rattle.std.specs.Prelude.{◌&&◌, ◌||◌, not, Option, Some, None, is_some, map, filter, flat_map}
use Rattle.std.specs.List.{list_any}
use Rattle.std.specs.Option.{option_map}
use Rattle.lemmas.proofs.Bools.{and_both}
use Rattle.lemmas.proofs.Options.{none_some, some_same}
use Rattle.insn_set.specs.declared.ops.InvokeKind.TheVariants as call
use Rattle.dalvik_defs.specs.Names.{Text, text_eq, same_name, is_common, object_type}
use Rattle.dalvik_defs.specs.Flags.{is_interface, is_abstract}
use Rattle.dalvik_defs.specs.Under.{class_named, defines, is_own_under, is_outward}
use Rattle.dalvik_defs.specs.Find.{Found, chain_of, finds_at, is_virtual_method, is_037}
use Rattle.dalvik_defs.specs.Outer.{Outer}
use Rattle.dalvik_defs.specs.Shut.{key_of, is_found_as, finds_it, names_outside, called_outside, is_other}
use Rattle.dalvik_defs.specs.Silence.{key_in}
use Rattle.dalvik_defs.specs.declared.names.Signature.{Signature}
use Rattle.dalvik_defs.specs.declared.names.MethodKey.{MethodKey}
use Rattle.dalvik_defs.specs.declared.forms.Form.{Form}
use Rattle.dalvik_defs.specs.declared.forms.Form.TheVariants as form
use Rattle.dalvik_defs.specs.declared.program.NamedBody.{NamedBody}
use Rattle.dalvik_defs.specs.declared.program.NamedMethod.{NamedMethod}
use Rattle.dalvik_defs.specs.declared.program.NamedClass.{NamedClass}
use Rattle.dalvik_defs.specs.declared.program.NamedProgram.{NamedProgram}
use Rattle.dalvik_defs.proofs.Calm.{text_sound}
use Rattle.pass_defs.specs.Live.{Family, Conditions, IsClosedFamily, KeepsAbove, is_concrete, is_constructor, answers_to}
use Rattle.pass_defs.specs.Calls.{inherits, candidates_of}
use Rattle.removal_law.specs.Left.{left_in, left_of}
use Rattle.removal_law.specs.Reach.{is_new, makes_new, may_be_made, IsRegular, ShutsHold, AgreesInside, DefinesOnce, NamesOnce}
use Rattle.removal_law.proofs.Lists.{clash, In, here, there, contained, and_left, and_behind}
use Rattle.removal_law.proofs.Classes.{Kept, class_left, dead_found}
use Rattle.removal_law.proofs.Members.{key, key_sound}
use Rattle.removal_law.proofs.Trees.{class_name, class_in, defines_same, own_under_left, outward_left}
use Rattle.removal_law.proofs.Finds.{in_filter, in_unfiltered}
use Rattle.removal_law.proofs.Searches.{at_left, at_some}
use Rattle.removal_law.proofs.Virtuals.{IsMethodOf, inherited, candidate_interface, candidate_version}
use Rattle.removal_law.proofs.Outward.{any_here, any_where}
use Rattle.removal_law.proofs.Declared.{method_same}
use Rattle.removal_law.proofs.LeftTyped.{out_of_map, ok_kept, found_kept, has, says}

-- ---- what forms say

pub new_form : (t : Text) (x : Form) → is_new t x ≡ true → (to : ℕ) × (x ≡ form.NewInstance to t)
new_form t form.Nop e = clash false e refl
new_form t (form.Move slot to from) e = clash false e refl
new_form t (form.MoveResult slot to) e = clash false e refl
new_form t (form.MoveException to) e = clash false e refl
new_form t form.ReturnVoid e = clash false e refl
new_form t (form.Return slot from) e = clash false e refl
new_form t (form.Const to value) e = clash false e refl
new_form t (form.ConstWide to value) e = clash false e refl
new_form t (form.ConstString to text) e = clash false e refl
new_form t (form.ConstClass to kind) e = clash false e refl
new_form t (form.MonitorEnter on) e = clash false e refl
new_form t (form.MonitorExit on) e = clash false e refl
new_form t (form.CheckCast on kind) e = clash false e refl
new_form t (form.InstanceOf to from kind) e = clash false e refl
new_form t (form.ArrayLength to from) e = clash false e refl
new_form t (form.NewInstance to kind) e = (to, ap (form.NewInstance to) (text_sound kind t e))
new_form t (form.NewArray to size kind) e = clash false e refl
new_form t (form.FilledNewArray kind args) e = clash false e refl
new_form t (form.FillArray on width items) e = clash false e refl
new_form t (form.Throw on) e = clash false e refl
new_form t (form.Goto target) e = clash false e refl
new_form t (form.PackedSwitch on first targets) e = clash false e refl
new_form t (form.SparseSwitch on keys targets) e = clash false e refl
new_form t (form.Cmp op to a b) e = clash false e refl
new_form t (form.If test a b target) e = clash false e refl
new_form t (form.IfZero test a target) e = clash false e refl
new_form t (form.ArrayGet item to array index) e = clash false e refl
new_form t (form.ArrayPut item from array index) e = clash false e refl
new_form t (form.InstanceGet item to on field) e = clash false e refl
new_form t (form.InstancePut item from on field) e = clash false e refl
new_form t (form.StaticGet item to field) e = clash false e refl
new_form t (form.StaticPut item from field) e = clash false e refl
new_form t (form.Invoke kind method args) e = clash false e refl
new_form t (form.Unary op to from) e = clash false e refl
new_form t (form.Binary op to a b) e = clash false e refl
new_form t (form.Literal op to a value) e = clash false e refl

-- a call that names a method outside of one program names one outside of another, where that one defines no class of it
pub outside_form : (r p : NamedProgram) (n : Text) (g : Signature) (x : Form)
    → ((k : MethodKey) (args : List ℕ) → (x ≡ form.Invoke call.Virtual k args) → defines p k.class ≡ defines r k.class)
    → ((k : MethodKey) (args : List ℕ) → (x ≡ form.Invoke call.Interface k args) → defines p k.class ≡ defines r k.class)
    → names_outside r n g x ≡ true → names_outside p n g x ≡ true
outside_form r p n g form.Nop h i e = clash false e refl
outside_form r p n g (form.Move slot to from) h i e = clash false e refl
outside_form r p n g (form.MoveResult slot to) h i e = clash false e refl
outside_form r p n g (form.MoveException to) h i e = clash false e refl
outside_form r p n g form.ReturnVoid h i e = clash false e refl
outside_form r p n g (form.Return slot from) h i e = clash false e refl
outside_form r p n g (form.Const to value) h i e = clash false e refl
outside_form r p n g (form.ConstWide to value) h i e = clash false e refl
outside_form r p n g (form.ConstString to text) h i e = clash false e refl
outside_form r p n g (form.ConstClass to kind) h i e = clash false e refl
outside_form r p n g (form.MonitorEnter on) h i e = clash false e refl
outside_form r p n g (form.MonitorExit on) h i e = clash false e refl
outside_form r p n g (form.CheckCast on kind) h i e = clash false e refl
outside_form r p n g (form.InstanceOf to from kind) h i e = clash false e refl
outside_form r p n g (form.ArrayLength to from) h i e = clash false e refl
outside_form r p n g (form.NewInstance to kind) h i e = clash false e refl
outside_form r p n g (form.NewArray to size kind) h i e = clash false e refl
outside_form r p n g (form.FilledNewArray kind args) h i e = clash false e refl
outside_form r p n g (form.FillArray on width items) h i e = clash false e refl
outside_form r p n g (form.Throw on) h i e = clash false e refl
outside_form r p n g (form.Goto target) h i e = clash false e refl
outside_form r p n g (form.PackedSwitch on first targets) h i e = clash false e refl
outside_form r p n g (form.SparseSwitch on keys targets) h i e = clash false e refl
outside_form r p n g (form.Cmp op to a b) h i e = clash false e refl
outside_form r p n g (form.If test a b target) h i e = clash false e refl
outside_form r p n g (form.IfZero test a target) h i e = clash false e refl
outside_form r p n g (form.ArrayGet item to array index) h i e = clash false e refl
outside_form r p n g (form.ArrayPut item from array index) h i e = clash false e refl
outside_form r p n g (form.InstanceGet item to on field) h i e = clash false e refl
outside_form r p n g (form.InstancePut item from on field) h i e = clash false e refl
outside_form r p n g (form.StaticGet item to field) h i e = clash false e refl
outside_form r p n g (form.StaticPut item from field) h i e = clash false e refl
outside_form r p n g (form.Invoke call.Virtual k args) h i e = ap (λ b. same_name k.name k.signature n g && not b && not (text_eq k.class object_type)) (h k args refl) ∙ e
outside_form r p n g (form.Invoke call.Super k args) h i e = clash false e refl
outside_form r p n g (form.Invoke call.Direct k args) h i e = clash false e refl
outside_form r p n g (form.Invoke call.Static k args) h i e = clash false e refl
outside_form r p n g (form.Invoke call.Interface k args) h i e = ap (λ b. same_name k.name k.signature n g && not b && not (text_eq k.class object_type)) (i k args refl) ∙ e
outside_form r p n g (form.Unary op to from) h i e = clash false e refl
outside_form r p n g (form.Binary op to a b) h i e = clash false e refl
outside_form r p n g (form.Literal op to a value) h i e = clash false e refl

-- ---- code that a test passes

-- whether some form of a program's code passes a test
abbrev pub any_code : NamedProgram → (Form → Bool) → Bool
any_code p test = list_any (λ c. list_any (λ m. elim m.body as (λ o. Bool) [ Some b ↦ list_any test b.forms | None ↦ false ]) c.methods) p.classes

pub record Code (p : NamedProgram) (test : Form → Bool) : Type 0 where
  pub class : NamedClass
  pub class_in : In class p.classes
  pub method : NamedMethod
  pub stands : In method class.methods
  pub body : NamedBody
  pub coded : method.body ≡ Some body
  pub form : Form
  pub says : In form body.forms
  pub passes : test form ≡ true

pub some_code : (p : NamedProgram) (test : Form → Bool) → any_code p test ≡ true → Code p test
some_code p test e =
    let c = any_where (λ c. list_any in_method c.methods) p.classes e in
    let m = any_where in_method c.0.methods c.1.1 in
    by c.0 c.1.0 m.0 m.1.0 m.0.body refl m.1.1
  where
    with_body : Option NamedBody → Bool
    with_body o = elim o as (λ o. Bool) [ Some b ↦ list_any test b.forms | None ↦ false ]

    in_method : NamedMethod → Bool
    in_method m = with_body m.body

    by : (c : NamedClass) → In c p.classes → (m : NamedMethod) → In m c.methods → (o : Option NamedBody) → m.body ≡ o → with_body o ≡ true → Code p test
    by c i m j None a h = clash false h refl
    by c i m j (Some b) a h = let x = any_where test b.forms h in
        record { class = c; class_in = i; method = m; stands = j; body = b; coded = a; form = x.0; says = x.1.0; passes = x.1.1 }

pub code_there : (p : NamedProgram) (test : Form → Bool) → Code p test → any_code p test ≡ true
code_there p test w = any_here (λ c. list_any in_method c.methods) w.class p.classes w.class_in
    (any_here in_method w.method w.class.methods w.stands (ap with_body w.coded ∙ any_here test w.form w.body.forms w.says w.passes))
  where
    with_body : Option NamedBody → Bool
    with_body o = elim o as (λ o. Bool) [ Some b ↦ list_any test b.forms | None ↦ false ]

    in_method : NamedMethod → Bool
    in_method m = with_body m.body

module _ (p : NamedProgram) (o : Outer) (k : Conditions) (s : Family) (closed : IsClosedFamily p o k s) (regular : IsRegular p) (names : NamesOnce p) (once : DefinesOnce p) (none : defines p object_type ≡ false) where
  abbrev q : NamedProgram
  q = left_of s p

  above : KeepsAbove p s
  above = closed.above

  -- ---- where what is left stood

  pub record Was (d : NamedClass) : Type 0 where
    pub class : NamedClass
    pub is_in : In class p.classes
    pub live : s.classes class.name ≡ true
    pub same : left_in s class ≡ d

  pub was : (d : NamedClass) → In d q.classes → Was d
  was d i = let w = out_of_map (left_in s) d (filter (λ (c : NamedClass). s.classes c.name) p.classes) i in record {
    class = w.0;
    is_in = in_unfiltered (λ (c : NamedClass). s.classes c.name) w.0 p.classes w.1.0;
    live = in_filter (λ (c : NamedClass). s.classes c.name) w.0 p.classes w.1.0;
    same = sym w.1.1;
  }

  -- a live method of a live class, with code
  pub record LiveCode (test : Form → Bool) : Type 0 where
    pub class : NamedClass
    pub class_in : In class p.classes
    pub class_live : s.classes class.name ≡ true
    pub method : NamedMethod
    pub stands : In method class.methods
    pub live : s.methods (key_in class method) ≡ true
    pub body : NamedBody
    pub coded : method.body ≡ Some body
    pub form : Form
    pub says : In form body.forms
    pub passes : test form ≡ true

  pub live_code : (test : Form → Bool) → any_code q test ≡ true → LiveCode test
  live_code test e =
      let c = some_code q test e in
      let w = was c.class c.class_in in
      let i = subst (λ (x : NamedClass). In c.method x.methods) (sym w.same) c.stands in record {
        class = w.class;
        class_in = w.is_in;
        class_live = w.live;
        method = c.method;
        stands = in_unfiltered (λ m. s.methods (key_in w.class m)) c.method w.class.methods i;
        live = in_filter (λ m. s.methods (key_in w.class m)) c.method w.class.methods i;
        body = c.body;
        coded = c.coded;
        form = c.form;
        says = c.says;
        passes = c.passes;
      }

  pub stood : (test other : Form → Bool) (w : LiveCode test) → other w.form ≡ true → any_code p other ≡ true
  stood test other w e = code_there p other (record { class = w.class; class_in = w.class_in; method = w.method; stands = w.stands; body = w.body; coded = w.coded; form = w.form; says = w.says; passes = e })

  -- ---- calls on the framework

  pub called_left : (n : Text) (g : Signature) → called_outside q n g ≡ true → called_outside p n g ≡ true
  called_left n g e =
      let w = live_code (names_outside q n g) e in
      let same : (x : MethodKey) (args : List ℕ) (kind : _) → w.form ≡ form.Invoke kind x args → defines p x.class ≡ defines q x.class =
      λ x args kind i. sym (defines_same p s above x.class (ok_kept p o k s closed regular names once none x.class
      (says p o k s closed regular names once none w.class w.method w.body w.class_in w.class_live w.stands w.live w.coded (form.Invoke kind x args) (subst (λ y. In y w.body.forms) i w.says)
      x.class (here (x.signature.result ∷ x.signature.parameters))))) in
      stood (names_outside q n g) (names_outside p n g) w
      (outside_form q p n g w.form (λ x args i. same x args call.Virtual i) (λ x args i. same x args call.Interface i) w.passes)

  -- ---- classes that may be made

  abbrev concrete_of : Option NamedClass → Bool
  concrete_of x = elim x as (λ x. Bool) [ Some c ↦ not (is_interface c.flags) && not (is_abstract c.flags) | None ↦ false ]

  concrete_left : (t : Text) → is_concrete q t ≡ true → is_concrete p t ≡ true
  concrete_left t e = by (s.classes t) refl
    where
      as_it_was : (x : Option NamedClass) → concrete_of (option_map (left_in s) x) ≡ concrete_of x
      as_it_was None = refl
      as_it_was (Some c) = refl

      by : (b : Bool) → s.classes t ≡ b → is_concrete p t ≡ true
      by true l = sym (as_it_was (class_named p t)) ∙ sym (ap concrete_of (class_left s p t (λ d. l))) ∙ e
      by false l = clash false (sym (ap concrete_of (dead_found s t l p.classes)) ∙ e) refl

  module _ (inside : AgreesInside o) where
    -- what may be made in what is left is made, and might be before
    pub made_left : (t : Text) → may_be_made q o t ≡ true → (s.made t ≡ true) × (may_be_made p o t ≡ true)
    made_left t e = by (o.classes t) refl (o.constructed t) refl (and_behind (is_concrete q t) (o.classes t || o.constructed t || makes_new q t) e)
      where
        concrete : is_concrete p t ≡ true
        concrete = concrete_left t (and_left (is_concrete q t) (o.classes t || o.constructed t || makes_new q t) e)

        may : (o.classes t || o.constructed t || makes_new p t) ≡ true → may_be_made p o t ≡ true
        may h = and_both (is_concrete p t) (o.classes t || o.constructed t || makes_new p t) concrete h

        by_rule : o.constructed t ≡ true → s.made t ≡ true
        by_rule i = let w = inside.constructed t i in let same = text_sound w.0.class t (and_left (text_eq w.0.class t) (is_constructor w.0) w.1.1) in
            ap s.made (sym same) ∙ closed.made.constructed w.0 (ap (is_concrete p) same ∙ concrete) (and_behind (text_eq w.0.class t) (is_constructor w.0) w.1.1)
            (ap (λ b. b || (k.methods w.0 && s.classes w.0.class)) w.1.0)

        by_code : makes_new q t ≡ true → (s.made t ≡ true) × (makes_new p t ≡ true)
        by_code h =
            let w = live_code (is_new t) h in
            let x = new_form t w.form w.passes in (
              closed.made.news (key_in w.class w.method) w.body x.0 t (has p o k s closed regular names once none w.class w.method w.body w.class_in w.class_live w.stands w.live w.coded)
                  (contained (form.NewInstance x.0 t) w.body.forms (subst (λ y. In y w.body.forms) x.1 w.says)) concrete,
              stood (is_new t) (is_new t) w w.passes,
            )

        by : (a : Bool) → o.classes t ≡ a → (b : Bool) → o.constructed t ≡ b → (a || b || makes_new q t) ≡ true → (s.made t ≡ true) × (may_be_made p o t ≡ true)
        by true i b j h = (closed.made.kept t concrete (ap (λ x. x || list_any (λ c. k.classes t c.name && s.classes c.name) p.classes) i), may (ap (λ x. x || o.constructed t || makes_new p t) i))
        by false i true j h = (by_rule j, may (ap (λ x. x || o.constructed t || makes_new p t) i ∙ ap (λ x. x || makes_new p t) j))
        by false i false j h = let r = by_code h in (r.0, may (ap (λ x. x || o.constructed t || makes_new p t) i ∙ ap (λ x. x || makes_new p t) j ∙ r.1))

    -- ---- other methods above a class

    module _ (holds : ShutsHold p o) where
      -- of a class that finds a shut method in what is left, and a method with code of a class above it
      module _ (x : MethodKey) (m : NamedMethod) (d e : NamedClass) (y : NamedMethod) (shut : o.shut x ≡ true) (name_is : m.name ≡ x.name) (signature_is : m.signature ≡ x.signature)
          (d_in : In d p.classes) (d_live : s.classes d.name ≡ true) (finds : is_found_as x (finds_at q d.name x) ≡ true) (made : s.made d.name ≡ true) (may : may_be_made p o d.name ≡ true)
          (open_to : (is_outward q d.name || is_common x.name x.signature) ≡ true) (e_in : In e p.classes) (under : is_own_under q d.name e.name ≡ true) (stands : In y e.methods)
          (live : s.methods (key_in e y) ≡ true) (other : is_other x.class m e y ≡ true) where
        kept_d : Kept s p d.name
        kept_d = λ i. d_live

        was_open : (is_outward p d.name || is_common x.name x.signature) ≡ true
        was_open = ap (λ b. b || is_common x.name x.signature) (sym (outward_left p s above regular d.name kept_d)) ∙ open_to

        was_under : is_own_under p d.name e.name ≡ true
        was_under = sym (own_under_left p s above regular d.name e.name kept_d) ∙ under

        abbrev three : Bool
        three = same_name y.name y.signature m.name m.signature && is_virtual_method y && is_some y.body

        first_three : three ≡ true
        first_three = and_left three (not (text_eq e.name x.class)) other

        first_two : (same_name y.name y.signature m.name m.signature && is_virtual_method y) ≡ true
        first_two = and_left (same_name y.name y.signature m.name m.signature && is_virtual_method y) (is_some y.body) first_three

        same_names : same_name y.name y.signature m.name m.signature ≡ true
        same_names = and_left (same_name y.name y.signature m.name m.signature) (is_virtual_method y) first_two

        key_y : key_in e y ≡ key e.name x.name x.signature
        key_y = key_sound e y m.name m.signature same_names ∙ ap (λ n. key e.name n m.signature) name_is ∙ ap (key e.name x.name) signature_is

        -- where it found the same before
        same_before : finds_at q d.name x ≡ finds_at p d.name x → (o.methods (key_of e y) || o.shut (key_of e y)) ≡ true
        same_before i = holds.others x m d e y shut name_is signature_is d_in (ap (is_found_as x) (sym i) ∙ finds) may was_open e_in was_under stands other

        called : (h : Found) → In h (answers_to p d.name x.name x.signature) → o.shut h.key ≡ false → s.methods h.key ≡ true
        called h i free = closed.called_back d.name x.name x.signature made was_open h (contained h (answers_to p d.name x.name x.signature) i) free

        if_live : ((h : Found) → In h (answers_to p d.name x.name x.signature) → s.methods h.key ≡ true) → finds_at q d.name x ≡ finds_at p d.name x
        if_live l = at_left p s above regular (found_kept p o k s closed regular names once none) d.name x kept_d l

        -- where it found another one, which isn't left: that one is shut
        module _ (g : Found) (got : inherits p d.name x.name x.signature ≡ Some g) (gone : s.methods g.key ≡ false) where
          gm : IsMethodOf p x.name x.signature g
          gm = inherited p s above regular x.name x.signature d.name g got

          shut_g : o.shut g.key ≡ true
          shut_g = by (o.shut g.key) refl
            where
              by : (b : Bool) → o.shut g.key ≡ b → o.shut g.key ≡ true
              by true i = i
              by false i = clash (s.methods g.key)
                  (called g (subst (λ z. In g (elim z as (λ z. List Found) [ Some f ↦ f ∷ [] | None ↦ candidates_of p d.name x.name x.signature ])) (sym got) (here [])) i) gone

          finds_g : finds_it p g.key d ≡ true
          finds_g = ap (is_found_as g.key) (at_some p s above regular d.name g.key g (ap (λ z. inherits p d.name z.name z.signature) gm.key_is ∙ got)) ∙ method_same g.key

          open_g : (is_outward p d.name || is_common g.key.name g.key.signature) ≡ true
          open_g = ap (λ z. is_outward p d.name || is_common z.name z.signature) gm.key_is ∙ was_open

          method_key : key_in gm.class gm.method ≡ key gm.class.name x.name x.signature
          method_key = ap (λ z. z.key) gm.is ∙ gm.key_is

          elsewhere : text_eq e.name g.key.class ≡ false
          elsewhere = by (text_eq e.name g.key.class) refl
            where
              by : (b : Bool) → text_eq e.name g.key.class ≡ b → text_eq e.name g.key.class ≡ false
              by true i = clash (s.methods (key_in e y)) live
                  (ap s.methods (key_y ∙ ap (λ z. key z x.name x.signature) (text_sound e.name g.key.class i ∙ ap (λ z. z.class) gm.key_is) ∙ sym gm.key_is) ∙ gone)
              by false i = i

          other_g : is_other g.key.class gm.method e y ≡ true
          other_g = ap (λ z. same_name y.name y.signature z gm.method.signature && is_virtual_method y && is_some y.body && not (text_eq e.name g.key.class)) (ap (λ z. z.name) method_key ∙ sym name_is)
              ∙ ap (λ z. same_name y.name y.signature m.name z && is_virtual_method y && is_some y.body && not (text_eq e.name g.key.class)) (ap (λ z. z.signature) method_key ∙ sym signature_is)
              ∙ ap (λ b. b && not (text_eq e.name g.key.class)) first_three ∙ ap not elsewhere

          another : (o.methods (key_of e y) || o.shut (key_of e y)) ≡ true
          another = holds.others g.key gm.method d e y shut_g (ap (λ z. z.key.name) gm.is) (ap (λ z. z.key.signature) gm.is) d_in finds_g may open_g e_in was_under stands other_g

        candidate_lives : (h : Found) → In h (candidates_of p d.name x.name x.signature) → In h (answers_to p d.name x.name x.signature) → s.methods h.key ≡ true
        candidate_lives h i j = by (o.shut h.key) refl
          where
            by : (b : Bool) → o.shut h.key ≡ b → s.methods h.key ≡ true
            by true a = let z = candidate_interface p s above regular x.name x.signature (flat_map (λ c. c.interfaces) (chain_of p d.name)) h i in
                clash (is_interface z.class.flags) z.is_interface
                (holds.plain h.key z.class (candidate_version p s above regular x.name x.signature (flat_map (λ c. c.interfaces) (chain_of p d.name)) h i) a z.named)
            by false a = called h j a

        pub other_left : (o.methods (key_of e y) || o.shut (key_of e y)) ≡ true
        other_left = by (inherits p d.name x.name x.signature) refl
          where
            only : (g : Found) → s.methods g.key ≡ true → (h : Found) → In h (g ∷ []) → s.methods h.key ≡ true
            only g l h (here ys) = l
            only g l h (there z ys i) = elim i [ ]

            answers : Option Found → List Found
            answers z = elim z as (λ z. List Found) [ Some f ↦ f ∷ [] | None ↦ candidates_of p d.name x.name x.signature ]

            one : (g : Found) → inherits p d.name x.name x.signature ≡ Some g → (b : Bool) → s.methods g.key ≡ b → (o.methods (key_of e y) || o.shut (key_of e y)) ≡ true
            one g i true l = same_before (if_live (λ h j. only g l h (subst (λ z. In h (answers z)) i j)))
            one g i false l = another g i l

            by : (z : Option Found) → inherits p d.name x.name x.signature ≡ z → (o.methods (key_of e y) || o.shut (key_of e y)) ≡ true
            by (Some g) i = one g i (s.methods g.key) refl
            by None i = same_before (if_live (λ h j. candidate_lives h (subst (λ z. In h (answers z)) i j) j))

      others : (x : MethodKey) (m : NamedMethod) (d e : NamedClass) (y : NamedMethod) → o.shut x ≡ true → m.name ≡ x.name → m.signature ≡ x.signature → In d q.classes → finds_it q x d ≡ true
          → may_be_made q o d.name ≡ true → (is_outward q d.name || is_common x.name x.signature) ≡ true → In e q.classes → is_own_under q d.name e.name ≡ true → In y e.methods
          → is_other x.class m e y ≡ true → (o.methods (key_of e y) || o.shut (key_of e y)) ≡ true
      others x m d e y shut a b i = by (was d i) (λ j. was e j)
        where
          inner : (d e : NamedClass) → In d p.classes → s.classes d.name ≡ true → In e p.classes → finds_it q x (left_in s d) ≡ true → may_be_made q o d.name ≡ true
              → (is_outward q d.name || is_common x.name x.signature) ≡ true → is_own_under q d.name e.name ≡ true → In y (left_in s e).methods → is_other x.class m e y ≡ true
              → (o.methods (key_of e y) || o.shut (key_of e y)) ≡ true
          inner d e i l j f n u v w z = let r = made_left d.name n in
              other_left x m d e y shut a b i l f r.0 r.1 u j v (in_unfiltered (λ m. s.methods (key_in e m)) y e.methods w) (in_filter (λ m. s.methods (key_in e m)) y e.methods w) z

          by : Was d → (In e q.classes → Was e) → finds_it q x d ≡ true → may_be_made q o d.name ≡ true → (is_outward q d.name || is_common x.name x.signature) ≡ true → In e q.classes
              → is_own_under q d.name e.name ≡ true → In y e.methods → is_other x.class m e y ≡ true → (o.methods (key_of e y) || o.shut (key_of e y)) ≡ true
          by w there_e f n u j v z t = there w (there_e j)
            where
              there : Was d → Was e → (o.methods (key_of e y) || o.shut (key_of e y)) ≡ true
              there wd we = subst (λ (c : NamedClass). (o.methods (key_of c y) || o.shut (key_of c y)) ≡ true) we.same
                  (inner wd.class we.class wd.is_in wd.live we.is_in (subst (λ (c : NamedClass). finds_it q x c ≡ true) (sym wd.same) f) (subst (λ (c : NamedClass). may_be_made q o c.name ≡ true) (sym wd.same) n)
                  (subst (λ (c : NamedClass). (is_outward q c.name || is_common x.name x.signature) ≡ true) (sym wd.same) u)
                  (subst (λ (c : NamedClass). is_own_under q c.name we.class.name ≡ true) (sym wd.same) (subst (λ (c : NamedClass). is_own_under q d.name c.name ≡ true) (sym we.same) v))
                  (subst (λ (c : NamedClass). In y c.methods) (sym we.same) z) (subst (λ (c : NamedClass). is_other x.class m c y ≡ true) (sym we.same) t))

      uncalled : (x : MethodKey) → o.shut x ≡ true → called_outside q x.name x.signature ≡ false
      uncalled x e = by (called_outside q x.name x.signature) refl
        where
          by : (b : Bool) → called_outside q x.name x.signature ≡ b → called_outside q x.name x.signature ≡ false
          by true i = clash (called_outside p x.name x.signature) (called_left x.name x.signature i) (holds.uncalled x e)
          by false i = i

      plain : (x : MethodKey) (c : NamedClass) → is_037 q.version ≡ true → o.shut x ≡ true → class_named q x.class ≡ Some c → is_interface c.flags ≡ false
      plain x c v e i =
          let w = was c (class_in q x.class c i) in
          ap (λ (z : NamedClass). is_interface z.flags) (sym w.same)
          ∙ holds.plain x w.class v e (ap (class_named p) (sym (ap (λ (z : NamedClass). z.name) w.same ∙ class_name q x.class c i)) ∙ names w.class w.is_in)

      pub left_holds : ShutsHold q o
      left_holds = record { uncalled = uncalled; others = others; plain = plain }

pub shuts_left : (p : NamedProgram) (o : Outer) (k : Conditions) (s : Family) → IsClosedFamily p o k s → IsRegular p → NamesOnce p → DefinesOnce p → defines p object_type ≡ false → AgreesInside o
    → ShutsHold p o → ShutsHold (left_of s p) o
shuts_left p o k s closed regular names once none inside holds = left_holds p o k s closed regular names once none inside holds
