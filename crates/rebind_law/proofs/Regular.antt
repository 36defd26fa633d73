-- A program that asks is typed and regular, and no class of it stands above itself.
use Rattle.std.proofs.Common.{◌≡◌, ◌⊎◌, ℕ, zero, suc, ◌<◌, Bool, true, false, true≢false, length, List, [], ◌∷◌, Option, Some, None, inl, inr, refl, sym, ap, ◌∙◌, subst, arith}
use Rattle.std.specs.Prelude.{if◌then◌else◌, Contains}
use Rattle.std.specs.Option.{option_map, option_and_then}
use Rattle.dalvik_defs.specs.Face.{bodies_of}
use Rattle.dalvik_defs.specs.Fields.{first_value}
use Rattle.dalvik_defs.specs.Find.{defined_method, method_in}
use Rattle.dalvik_defs.specs.Flags.{is_static, is_interface}
use Rattle.dalvik_defs.specs.Names.{Text, is_class_type, is_word, is_array}
use Rattle.dalvik_defs.specs.Silence.{key_in}
use Rattle.dalvik_defs.specs.Under.{class_named, defines}
use Rattle.dalvik_defs.specs.declared.encoded.NamedValue.{NamedValue}
use Rattle.dalvik_defs.specs.declared.forms.Form.{Form}
use Rattle.dalvik_defs.specs.declared.forms.Form.TheVariants as form
use Rattle.dalvik_defs.specs.declared.names.MethodKey.{MethodKey}
use Rattle.dalvik_defs.specs.declared.program.NamedBody.{NamedBody}
use Rattle.dalvik_defs.specs.declared.program.NamedClass.{NamedClass}
use Rattle.dalvik_defs.specs.declared.program.NamedField.{NamedField}
use Rattle.dalvik_defs.specs.declared.program.NamedMethod.{NamedMethod}
use Rattle.dalvik_defs.specs.declared.program.NamedProgram.{NamedProgram}
use Rattle.pass_defs.specs.Kinds.{Class, fits, is_below, is_number, fits_array, is_initialised, is_plain}
use Rattle.pass_defs.specs.Registers.{Kinds, kind_at}
use Rattle.pass_defs.specs.Typed.{state_at, IsTyped, differ, is_static_call}
use Rattle.pass_defs.specs.Walks.{form_at}
use Rattle.pass_defs.proofs.Writes.{itself_below}
use Rattle.run_laws.specs.Holds.{Each}
use Rattle.removal_law.specs.Left.{In}
use Rattle.removal_law.specs.Reach.{IsAcyclic}
use Rattle.program_laws.specs.Bodies.{Change, class_changed, method_changed}
use Rattle.program_laws.proofs.Heads.{class_same, at_class, plain_same, under_same, method_same}
use Rattle.program_laws.proofs.Moved.{image}
use Rattle.run_laws.specs.Regular.{IsRegular, InterfacesStandFree, taken, reads_value, suits}
use Rattle.run_laws.proofs.Climbs.{none_some, some_one, plain_defined}
use Rattle.run_laws.proofs.Sorts.{class_alone, not_word}
use Rattle.program_laws.specs.Others.{OtherBodies}
use Rattle.program_laws.proofs.Named.{others_changed}
use Rattle.rebind_law.specs.Retyping.{Retypes, IsRetyped, Retyped, NoCode, Changed}
use Rattle.rebind_law.proofs.Retyping.{retyped_program}
use Rattle.rebind_law.specs.Asking.{Asks, asking, asking_key, asking_from, asking_body, asking_change, asking_program, no_name, AskedCall, KnowsReceivers, AreAsked}
use Rattle.rebind_law.proofs.NoName.{ordinary_name, unresolved}
use Rattle.rebind_law.proofs.Positions.{at_body, coded}

-- a class's own kind fits it
own_fits : (p : NamedProgram) (t : Text) → is_class_type t ≡ true → is_plain p t ≡ true → fits p (Class t) t ≡ true
own_fits p t c plain = by (is_word t) (is_array t) (is_plain p t) (not_word t (class_alone t c).0) (class_alone t c).1 plain
  where
    by : (a b d : Bool) → a ≡ false → b ≡ false → d ≡ true
        → (if a then is_number (Class t) else if b then fits_array p (Class t) t else if d then is_below p (Class t) (Class t) else is_initialised (Class t)) ≡ true
    by true b d i j k = absurd (true≢false i)
    by false true d i j k = absurd (true≢false j)
    by false false true i j k = itself_below p (Class t)
    by false false false i j k = absurd (true≢false (sym k))

module _ (p : NamedProgram) (regular : IsRegular p) (asks : Asks) (asked : AreAsked p asks) where
  abbrev m : NamedProgram
  m = asking_program asks p

  abbrev name : Text
  name = no_name p

  abbrev new : Change
  new = asking_change name asks

  -- ---- typings

  plain_type : (t : Text) → is_plain p t ≡ true → is_class_type t ≡ true
  plain_type t e = regular.class_types t (plain_defined p t e)

  -- a call that asks for the class of its receiver's kind
  retypes : (t : Text) (f : Form) (call : AskedCall p t f) (a : Kinds) → kind_at a.registers call.on ≡ Class t → Retypes p a f (asking name (Some t) f)
  retypes t f call a known = record {
    call = record {
      kind = call.kind;
      kind' = call.kind;
      old = call.key;
      new = asking_key name t call.key;
      on = call.on;
      args = call.args;
      first = call.is;
      second = ap (asking name (Some t)) call.is;
      virtual = call.virtual;
      virtual' = call.virtual;
      old_type = call.key_type;
      new_type = plain_type t call.plain;
      plain_name = call.ordinary;
    };
    ordinary = ordinary_name p;
    signature = refl;
    right = ap (λ o. elim o as (λ o. Bool) [ Some g ↦ differ (is_static_call call.kind) (is_static g.flags) | None ↦ false ]) (unresolved p t call.key);
    fits = subst (λ k. fits p k t ≡ true) (sym known) (own_fits p t (plain_type t call.plain) call.plain);
  }

  module _ (c : NamedClass) (d : NamedMethod) (b : NamedBody) (i : Contains p.classes c) (j : Contains c.methods d) (e : d.body ≡ Some b) where
    k : MethodKey
    k = key_in c d

    knows : KnowsReceivers p (asks (key_in c d)) c d b
    knows = asked.typed c d b i j e

    found : bodies_of p (key_in c d) ≡ Some b
    found = ap (option_and_then (λ (m : NamedMethod). m.body)) (regular.methods c d i j) ∙ e

    retyped : IsRetyped p c d b (asking_body name (asks (key_in c d)) b)
    retyped = record {
      table = knows.table;
      typing = knows.typing;
      changed = record {
        forms = λ n f h. (asking name (asks (key_in c d) n) f, (at_body name (asks (key_in c d)) n b ∙ ap (option_map (asking name (asks (key_in c d) n))) h, one n f h (asks (key_in c d) n) refl));
        ends = λ n h. at_body name (asks (key_in c d)) n b ∙ ap (option_map (asking name (asks (key_in c d) n))) h;
        regions = refl;
        registers = refl;
        ins = refl;
      };
    }
      where
        one : (n : ℕ) (f : Form) → form_at b n ≡ Some f → (o : Option Text) → asks (key_in c d) n ≡ o → (asking name o f ≡ f) ⊎ ((a : Kinds) → state_at knows.table n ≡ Some a → Retypes p a f (asking name o f))
        one n f h None q = inl refl
        one n f h (Some t) q = inr (λ a s. let call : AskedCall p t f = asked.calls (key_in c d) b n f t found h q in retypes t f call a (knows.known n f t a call h q s))

  asking_retyped : OtherBodies (Retyped p) p m
  asking_retyped = others_changed (Retyped p) new p (coded name asks) (λ c d. by c d d.body refl)
    where
      by : (c : NamedClass) (d : NamedMethod) (o : Option NamedBody) → d.body ≡ o → Retyped p (key_in c d) o (option_map (asking_body name (asks (key_in c d))) o)
      by c d None e = NoCode
      by c d (Some b) e = Changed b (asking_body name (asks (key_in c d)) b) (λ c1 d1 i j same has. subst (λ q. IsRetyped p c1 d1 b (asking_body name (asks q) b)) (sym same) (retyped c1 d1 b i j has))

  pub asking_typed : IsTyped m
  asking_typed = retyped_program p m regular.typed asking_retyped

  -- ---- the rest

  pub same_defines : (t : Text) → defines m t ≡ defines p t
  same_defines t = at_class new p (λ c. true) (λ c. true) false (λ c. refl) t

  abbrev other : NamedClass → NamedClass
  other = class_changed new

  of_class : (P : NamedClass → Type 0) → ((c : NamedClass) → Contains p.classes c → P (other c)) → (c : NamedClass) → Contains m.classes c → P c
  of_class P h c i = let r = image other p.classes c i.0 i.1 i.2 in subst P r.1.1 (h r.0 r.1.0)

  of_method : (c : NamedClass) (P : NamedMethod → Type 0) → ((d : NamedMethod) → Contains c.methods d → P (method_changed new c d)) → (d : NamedMethod) → Contains (other c).methods d → P d
  of_method c P h d j = let r = image (method_changed new c) c.methods d j.0 j.1 j.2 in subst P r.1.1 (h r.0 r.1.0)

  found_class : (c : NamedClass) → Contains p.classes c → class_named m c.name ≡ Some (other c)
  found_class c i = class_same new p c.name ∙ ap (option_map other) (regular.named c i)

  found_method : (c : NamedClass) → Contains p.classes c → (d : NamedMethod) → Contains c.methods d → defined_method m (key_in c d) ≡ Some (method_changed new c d)
  found_method c i d j = ap (λ o. elim o as (λ o. Option NamedMethod) [ Some c ↦ method_in c d.name d.signature | None ↦ None ]) (found_class c i)
      ∙ (method_same new p c d.name d.signature
      ∙ ap (option_map (method_changed new c)) (sym (ap (λ o. elim o as (λ o. Option NamedMethod) [ Some c ↦ method_in c d.name d.signature | None ↦ None ]) (regular.named c i)) ∙ regular.methods c d i j))

  each_plain : (ts : List Text) → Each (λ u. is_plain p u ≡ false) ts → Each (λ u. is_plain m u ≡ false) ts
  each_plain [] h = tt
  each_plain (t ∷ ts) h = (ap (λ f. f t) (plain_same new p) ∙ h.0, each_plain ts h.1)

  free : InterfacesStandFree m
  free t c e i = by (class_named p t) refl (sym (class_same new p t) ∙ e)
    where
      by : (o : Option NamedClass) → class_named p t ≡ o → option_map other o ≡ Some c → Each (λ u. is_plain m u ≡ false) (c.superclass ∷ c.interfaces)
      by None x y = none_some c y
      by (Some d) x y = let same : other d ≡ c = some_one (other d) c y in
          subst (λ (c : NamedClass). Each (λ u. is_plain m u ≡ false) (c.superclass ∷ c.interfaces)) same
          (each_plain (d.superclass ∷ d.interfaces) (regular.above_interfaces t d x (ap (λ (c : NamedClass). is_interface c.flags) same ∙ i)))

  -- what stands in the body that asks reads values where the other does
  reads_asking : (o : Option Text) (f : Form) → reads_value f ≡ true → reads_value (asking name o f) ≡ true
  reads_asking None f e = e
  reads_asking (Some t) (form.Invoke kind k args) e = refl
  reads_asking (Some t) f e = e

  reads_from : (asks : ℕ → Option Text) (n : ℕ) (fs : List Form) → ((f : Form) → Contains fs f → reads_value f ≡ true) → (f : Form) → Contains (asking_from name asks n fs) f → reads_value f ≡ true
  reads_from asks n [] h f (x, l, e) = absurd (omega (arith, l))
  reads_from asks n (g ∷ fs) h f (zero, l, e) = subst (λ f. reads_value f ≡ true) e (reads_asking (asks n) g (h g (0, omega arith, refl)))
  reads_from asks n (g ∷ fs) h f (suc x, l, e) = reads_from asks (suc n) fs (λ f i. let low : i.0 < length fs = i.1 in h f (suc i.0, omega (arith, low), i.2)) f (x, omega (arith, l), e)

  abbrev EntersSo : NamedMethod → Type 0
  EntersSo d = (b : NamedBody) → d.body ≡ Some b → b.ins ≡ taken d

  abbrev ReadsSo : NamedMethod → Type 0
  ReadsSo d = (b : NamedBody) (x : Form) → d.body ≡ Some b → Contains b.forms x → reads_value x ≡ true

  entered_so : (c : NamedClass) → Contains p.classes c → (d : NamedMethod) → Contains c.methods d → EntersSo (method_changed new c d)
  entered_so c i d j b e = by d.body refl e
    where
      by : (o : Option NamedBody) → d.body ≡ o → option_map (asking_body name (asks (key_in c d))) o ≡ Some b → b.ins ≡ taken d
      by None x y = none_some b y
      by (Some a) x y = ap (λ (b : NamedBody). b.ins) (sym (some_one (asking_body name (asks (key_in c d)) a) b y)) ∙ regular.entries c d a i j x

  read_so : (c : NamedClass) → Contains p.classes c → (d : NamedMethod) → Contains c.methods d → ReadsSo (method_changed new c d)
  read_so c i d j b f e q = by d.body refl e
    where
      by : (o : Option NamedBody) → d.body ≡ o → option_map (asking_body name (asks (key_in c d))) o ≡ Some b → reads_value f ≡ true
      by None x y = none_some b y
      by (Some a) x y = reads_from (asks (key_in c d)) 0 a.forms (λ f h. regular.reads c d a f i j x h) f (subst (λ (b : NamedBody). Contains b.forms f) (sym (some_one (asking_body name (asks (key_in c d)) a) b y)) q)

  pub asking_regular : IsRegular m
  asking_regular = record {
    typed = asking_typed;
    named = of_class (λ c. class_named m c.name ≡ Some c) found_class;
    class_types = λ t e. regular.class_types t (sym (same_defines t) ∙ e);
    methods = λ c d i j. of_class (λ c. (d : NamedMethod) → Contains c.methods d → defined_method m (key_in c d) ≡ Some d) (λ c i. of_method c (λ d. defined_method m (key_in (other c) d) ≡ Some d) (found_method c i)) c i d j;
    above_interfaces = free;
    firsts = λ c g v i j e. of_class (λ c. (g : NamedField) (v : NamedValue) → Contains c.fields g → g.first ≡ Some v → suits g.kind (first_value v) ≡ true) (λ c i g v j e. regular.firsts c g v i j e) c i g v j e;
    entries = λ c d b i j e. of_class (λ c. (d : NamedMethod) → Contains c.methods d → EntersSo d) (λ c i. of_method c EntersSo (entered_so c i)) c i d j b e;
    reads = λ c d b x i j e q. of_class (λ c. (d : NamedMethod) → Contains c.methods d → ReadsSo d) (λ c i. of_method c ReadsSo (read_so c i)) c i d j b x e q;
  }

pub asking_acyclic : (p : NamedProgram) (asks : Asks) → IsAcyclic p → IsAcyclic (asking_program asks p)
asking_acyclic p asks acyclic t u i e = acyclic t u (subst (In u) (at_class new p (λ c. c.superclass ∷ c.interfaces) (λ c. c.superclass ∷ c.interfaces) [] (λ c. refl) t) i) (sym (ap (λ f. f u t) (under_same new p)) ∙ e)
  where
    new : Change
    new = asking_change (no_name p) asks
