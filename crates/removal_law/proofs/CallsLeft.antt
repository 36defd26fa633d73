-- What calls in live code find is the same in what is left of a program, and live.
use Rattle.std.proofs.Common.{◌≡◌, ℕ, Bool, true, false, List, [], ◌∷◌, length, refl, sym, ap, ◌∙◌, subst}
use Rattle.std.specs.Prelude.{◌&&◌, ◌||◌, not, Option, Some, None, is_some, flat_map, map}
use Rattle.std.specs.List.{list_any}
use Rattle.std.specs.Option.{option_and_then}
use Rattle.lemmas.proofs.Options.{none_some}
use Rattle.insn_set.specs.declared.ops.InvokeKind.{InvokeKind}
use Rattle.insn_set.specs.declared.ops.InvokeKind.TheVariants as call
use Rattle.dalvik_defs.specs.Names.{Text, text_eq, object_type, same_name, is_common}
use Rattle.dalvik_defs.specs.Under.{class_named, defines, is_under, is_outward, is_own_under}
use Rattle.dalvik_defs.specs.Find.{Found, method_in, Search, Nothing, Finds, finds_statically, finds_super, finds_at}
use Rattle.dalvik_defs.specs.Face.{Face, face_of, bodies_of, finds_virtually}
use Rattle.dalvik_defs.specs.Outer.{Outer}
use Rattle.dalvik_defs.specs.Shut.{names_outside, called_outside}
use Rattle.dalvik_defs.specs.declared.names.Signature.{Signature}
use Rattle.dalvik_defs.specs.declared.names.MethodKey.{MethodKey}
use Rattle.dalvik_defs.specs.declared.forms.Form.{Form}
use Rattle.dalvik_defs.specs.declared.forms.Form.TheVariants as form
use Rattle.dalvik_defs.specs.declared.tables.Framework.{Framework}
use Rattle.dalvik_defs.specs.declared.program.NamedBody.{NamedBody}
use Rattle.dalvik_defs.specs.declared.program.NamedMethod.{NamedMethod}
use Rattle.dalvik_defs.specs.declared.program.NamedClass.{NamedClass}
use Rattle.dalvik_defs.specs.declared.program.NamedProgram.{NamedProgram}
use Rattle.pass_defs.specs.Live.{Family, Conditions, IsClosedFamily, KeepsAbove, is_bound, answers_to}
use Rattle.pass_defs.specs.Calls.{is_within, found_by, super_candidates, may_find}
use Rattle.pass_defs.specs.Mentions.{types_in, types_in_body}
use Rattle.removal_law.specs.Left.{left_of, NamesNone}
use Rattle.removal_law.specs.Agree.{searched, AgreeOnCall, sieved}
use Rattle.removal_law.specs.Reach.{OkType, is_new, makes_new, MadeType, LiveMethod, Says, IsRegular, IsSoundCode, IsSoundTable, is_idle}
use Rattle.removal_law.proofs.Lists.{clash, In, here, contained, in_front, in_back, found_in}
use Rattle.removal_law.proofs.Walks.{text_same}
use Rattle.removal_law.proofs.Classes.{Kept}
use Rattle.removal_law.proofs.Under.{under_same}
use Rattle.removal_law.proofs.Trees.{class_in, defined, defines_same}
use Rattle.removal_law.proofs.Finds.{in_flat}
use Rattle.removal_law.proofs.Searches.{nothing_finds, along_defined, statically_left, super_left, at_left, at_in}
use Rattle.removal_law.proofs.Virtuals.{IsMethodOf, answer}
use Rattle.removal_law.proofs.Outward.{any_here, Up, inside, through, object, under_up}
use Rattle.removal_law.proofs.Supers.{super_defined}
use Rattle.removal_law.proofs.Declared.{name_same, ok_kept, method_kept}

-- ---- where a body stands

pub record BodyIn (p : NamedProgram) (k : MethodKey) (b : NamedBody) : Type 0 where
  pub class : NamedClass
  pub method : NamedMethod
  pub class_in : In class p.classes
  pub named : class_named p k.class ≡ Some class
  pub method_in : In method class.methods
  pub body : method.body ≡ Some b

pub body_in : (p : NamedProgram) (k : MethodKey) (b : NamedBody) → bodies_of p k ≡ Some b → BodyIn p k b
body_in p k b e = by (class_named p k.class) refl e
  where
    at : (c : NamedClass) → class_named p k.class ≡ Some c → (x : Option NamedMethod) → method_in c k.name k.signature ≡ x → option_and_then (λ m. m.body) x ≡ Some b → BodyIn p k b
    at c i None j a = none_some b a
    at c i (Some m) j a = record { class = c; method = m; class_in = class_in p k.class c i; named = i; method_in = (found_in (λ m. same_name m.name m.signature k.name k.signature) c.methods m j).is_in; body = a }

    by : (x : Option NamedClass) → class_named p k.class ≡ x → option_and_then (λ m. m.body) (elim x as (λ x. Option NamedMethod) [ Some c ↦ method_in c k.name k.signature | None ↦ None ]) ≡ Some b → BodyIn p k b
    by None i a = none_some b a
    by (Some c) i a = at c i (method_in c k.name k.signature) refl a

-- a call that names a method on the framework is one
pub is_called_outside : (p : NamedProgram) (n : Text) (g : Signature) (k : MethodKey) (b : NamedBody) (x : Form) → bodies_of p k ≡ Some b → In x b.forms → names_outside p n g x ≡ true → called_outside p n g ≡ true
is_called_outside p n g k b x e i t = let w = body_in p k b e in
    any_here (λ c. list_any in_body c.methods) w.class p.classes w.class_in
    (any_here in_body w.method w.class.methods w.method_in (ap with_body w.body ∙ any_here (names_outside p n g) x b.forms i t))
  where
    with_body : Option NamedBody → Bool
    with_body o = elim o as (λ o. Bool) [ Some b ↦ list_any (names_outside p n g) b.forms | None ↦ false ]

    in_body : NamedMethod → Bool
    in_body m = with_body m.body

-- code that makes an object of a class makes one
pub is_made_new : (p : NamedProgram) (k : MethodKey) (b : NamedBody) (to : ℕ) (t : Text) → bodies_of p k ≡ Some b → In (form.NewInstance to t) b.forms → makes_new p t ≡ true
is_made_new p k b to t e i = let w = body_in p k b e in
    any_here (λ c. list_any in_body c.methods) w.class p.classes w.class_in
    (any_here in_body w.method w.class.methods w.method_in (ap with_body w.body ∙ any_here (is_new t) (form.NewInstance to t) b.forms i (text_same t)))
  where
    with_body : Option NamedBody → Bool
    with_body o = elim o as (λ o. Bool) [ Some b ↦ list_any (is_new t) b.forms | None ↦ false ]

    in_body : NamedMethod → Bool
    in_body m = with_body m.body

module _ (p : NamedProgram) (o : Outer) (kept : Conditions) (s : Family) (f : Framework) (closed : IsClosedFamily p o kept s) (regular : IsRegular p) (code : IsSoundCode p) (table : IsSoundTable p o)
    (none : NamesNone p f) where
  abbrev q : NamedProgram
  q = left_of s p

  abbrev F : Face
  F = face_of p f

  abbrev G : Face
  G = sieved (is_idle p) (face_of (left_of s p) f)

  above : KeepsAbove p s
  above = closed.above

  kept_of : (t : Text) → OkType p s t → Kept s p t
  kept_of = ok_kept p o kept s f closed regular code table none

  found_kept : (g : Found) → s.methods g.key ≡ true → Kept s p g.key.class
  found_kept = method_kept p o kept s f closed regular code table none

  -- a type that a live form names
  pub says_type : (m : MethodKey) (x : Form) → Says p s m x → (t : Text) → In t (types_in x) → OkType p s t
  says_type m x a t i = closed.types.bodies m a.body a.has t
      (contained t (types_in_body a.body) (in_front t (flat_map types_in a.body.forms) (flat_map (λ r. map (λ h. h.kind) r.handlers) a.body.regions) (in_flat types_in x t a.body.forms a.stands i)))

  abbrev OnCall : Search → Search → Type 0
  OnCall = AgreeOnCall (OkType p s) (MadeType p o s) (LiveMethod p s)

  module _ (m : MethodKey) (k : MethodKey) (args : List ℕ) where
    class_kept : (kind : InvokeKind) → Says p s m (form.Invoke kind k args) → Kept s p k.class
    class_kept kind a = kept_of k.class (says_type m (form.Invoke kind k args) a k.class (here (k.signature.result ∷ k.signature.parameters)))

    method_class : (x : Form) → Says p s m x → Kept s p m.class
    method_class x a = λ d. closed.kept.method_classes m a.has.0

    bound : (kind : InvokeKind) → is_bound kind ≡ true → Says p s m (form.Invoke kind k args) → (g : Found) → In g (may_find p m.class kind k) → s.methods g.key ≡ true
    bound kind e a g i = closed.bound m a.body kind k args a.has (contained (form.Invoke kind k args) a.body.forms a.stands) e g (contained g (may_find p m.class kind k) i)

    by_name : (x : Search) (g : Found) → x ≡ Finds g → In g (found_by x)
    by_name x g e = subst (λ y. In g (found_by y)) (sym e) (here [])

    -- ---- static and direct calls

    statically : (kind : InvokeKind) → is_bound kind ≡ true → may_find p m.class kind k ≡ found_by (finds_statically p k) → Says p s m (form.Invoke kind k args) → OnCall (finds_statically p k) (finds_statically q k)
    statically kind e w a = record {
      same = sym (statically_left p s above regular k (class_kept kind a) lives);
      live_found = λ g i. record { live = lives g i; defined = along_defined p s above regular k k.class g i };
    }
      where
        lives : (g : Found) → finds_statically p k ≡ Finds g → s.methods g.key ≡ true
        lives g i = bound kind e a g (subst (In g) (sym w) (by_name (finds_statically p k) g i))

    -- ---- super calls

    superly : Says p s m (form.Invoke call.Super k args) → OnCall (finds_super p m.class k) (finds_super q m.class k)
    superly a = record {
      same = sym (super_left p s above regular found_kept m.class k (method_class (form.Invoke call.Super k args) a) (class_kept call.Super a) lives
          (λ g i. bound call.Super refl a g (in_back g (found_by (finds_super p m.class k)) (super_candidates p k) i)));
      live_found = λ g i. record { live = lives g i; defined = super_defined p s above regular k m.class g i };
    }
      where
        lives : (g : Found) → finds_super p m.class k ≡ Finds g → s.methods g.key ≡ true
        lives g i = bound call.Super refl a g (in_front g (found_by (finds_super p m.class k)) (super_candidates p k) (by_name (finds_super p m.class k) g i))

    -- ---- virtual and interface calls

    module _ (kind : InvokeKind) (unbound : is_bound kind ≡ false) (a : Says p s m (form.Invoke kind k args))
        (names : defines p k.class ≡ false → text_eq k.class object_type ≡ false → names_outside p k.name k.signature (form.Invoke kind k args) ≡ true)
        (t : Text) (ok : OkType p s t) (made : MadeType p o s t) where
      module _ (d : defines p t ≡ true) where
        within_lives : is_within p t k.class ≡ true → (h : Found) → In h (answers_to p t k.name k.signature) → s.methods h.key ≡ true
        within_lives e h i = closed.virtual m a.body kind k args a.has (contained (form.Invoke kind k args) a.body.forms a.stands) unbound t (made d).0 e h (contained h (answers_to p t k.name k.signature) i)

        outside_lives : is_outward p t ≡ true → defines p k.class ≡ false → text_eq k.class object_type ≡ false → (h : Found) → In h (answers_to p t k.name k.signature) → s.methods h.key ≡ true
        outside_lives out away strange h i = by (o.shut h.key) refl
          where
            x : IsMethodOf p k.name k.signature h
            x = answer p s above regular k.name k.signature t h i

            outside : called_outside p k.name k.signature ≡ true
            outside = is_called_outside p k.name k.signature m a.body (form.Invoke kind k args) a.has.1 a.stands (names away strange)

            by : (b : Bool) → o.shut h.key ≡ b → s.methods h.key ≡ true
            by true e = clash (called_outside p k.name k.signature) outside (ap (λ z. called_outside p z.name z.signature) (sym x.key_is) ∙ table.shuts.uncalled h.key e)
            by false e = closed.called_back t k.name k.signature (made d).0 (ap (λ b. b || is_common k.name k.signature) out) h (contained h (answers_to p t k.name k.signature) i) e

        or_true : (b c : Bool) → c ≡ true → (b || c) ≡ true
        or_true true c e = refl
        or_true false c e = e

        lives : is_under p f t k.class ≡ true → (h : Found) → In h (answers_to p t k.name k.signature) → s.methods h.key ≡ true
        lives e = by (under_up p f none regular t k.class d e)
          where
            beyond : is_outward p t ≡ true → defines p k.class ≡ false → (b : Bool) → text_eq k.class object_type ≡ b → (h : Found) → In h (answers_to p t k.name k.signature) → s.methods h.key ≡ true
            beyond out away true i = within_lives (ap (λ b. b || is_own_under p t k.class) i)
            beyond out away false i = outside_lives out away i

            by : Up p f none regular (length p.classes) t k.class → (h : Found) → In h (answers_to p t k.name k.signature) → s.methods h.key ≡ true
            by (inside i) = within_lives (or_true (text_eq k.class object_type) (is_own_under p t k.class) i)
            by (through i away) = beyond i away (text_eq k.class object_type) refl
            by (object i) = within_lives (ap (λ b. b || is_own_under p t k.class) i)

      abbrev given_by : NamedProgram → Bool → Search
      given_by r b = elim b as (λ b. Search) [ true ↦ finds_at r t k | false ↦ Nothing ]

      abbrev test_of : NamedProgram → Bool
      test_of r = is_some (class_named r t) && is_under r f t k.class

      some_defines : (r : NamedProgram) → is_some (class_named r t) ≡ defines r t
      some_defines r = by (class_named r t)
        where
          by : (x : Option NamedClass) → is_some x ≡ (elim x as (λ x. Bool) [ Some c ↦ true | None ↦ false ])
          by None = refl
          by (Some c) = refl

      test_same : test_of p ≡ test_of q
      test_same = ap (λ b. b && is_under p f t k.class) (some_defines p ∙ sym (defines_same p s above t (kept_of t ok)) ∙ sym (some_defines q)) ∙ ap (λ b. is_some (class_named q t) && b) (under_same p f none s above t k.class ok)

      virtually : OnCall (finds_virtually p f t k) (finds_virtually q f t k)
      virtually = subst (λ b. OnCall (finds_virtually p f t k) (given_by q b)) test_same (by (is_some (class_named p t)) (is_under p f t k.class) refl refl)
        where
          met : is_some (class_named p t) ≡ true → is_under p f t k.class ≡ true → OnCall (finds_at p t k) (finds_at q t k)
          met e i = record {
            same = sym (at_left p s above regular found_kept t k (kept_of t ok) (lives (sym (some_defines p) ∙ e) i));
            live_found = λ g j. let h = at_in p s above regular t k g j in let x = answer p s above regular k.name k.signature t g h in
                record { live = lives (sym (some_defines p) ∙ e) i g h; defined = ap (λ z. defines p z.class) x.key_is ∙ defined p x.class.name x.class x.named };
          }

          missed : OnCall Nothing Nothing
          missed = record { same = refl; live_found = λ g j. nothing_finds g j }

          by : (b c : Bool) → is_some (class_named p t) ≡ b → is_under p f t k.class ≡ c → OnCall (given_by p (b && c)) (given_by q (b && c))
          by true true e i = met e i
          by true false e i = missed
          by false c e i = missed

    no_name : defines p k.class ≡ false → text_eq k.class object_type ≡ false → (same_name k.name k.signature k.name k.signature && not (defines p k.class) && not (text_eq k.class object_type)) ≡ true
    no_name e i = ap (λ b. b && not (defines p k.class) && not (text_eq k.class object_type)) (name_same k.name k.signature) ∙ ap (λ b. not b && not (text_eq k.class object_type)) e ∙ ap not i

    pub called_agrees : (kind : InvokeKind) (t : Text) → Says p s m (form.Invoke kind k args) → OkType p s t → MadeType p o s t → OnCall (searched F m.class kind t k) (searched G m.class kind t k)
    called_agrees call.Static t a ok made = statically call.Static refl refl a
    called_agrees call.Direct t a ok made = statically call.Direct refl refl a
    called_agrees call.Super t a ok made = superly a
    called_agrees call.Virtual t a ok made = virtually call.Virtual refl a no_name t ok made
    called_agrees call.Interface t a ok made = virtually call.Interface refl a no_name t ok made
