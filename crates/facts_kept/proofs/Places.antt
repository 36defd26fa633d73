-- A position that facts by names reach is one that facts by number reach.
use Rattle.std.proofs.Common.{◌≡◌, ℕ, suc, Bool, true, false, true≢false, List, [], ◌∷◌, Option, Some, None, refl, sym, ap, ◌∙◌, subst}
use Rattle.std.specs.Prelude.{cond, find, map, slice_get, option_and_then}
use Rattle.std.specs.Option.{option_map}
use Rattle.lemmas.proofs.Lists.{get_map, got_short}
use Rattle.lemmas.proofs.Options.{before_map, none_some, some_same}
use Rattle.program_model.specs.Lookups as look
use Rattle.program_model.specs.declared.body.Body.{Body}
use Rattle.program_model.specs.declared.program.Class.{Class}
use Rattle.program_model.specs.declared.program.Method.{Method}
use Rattle.program_model.specs.declared.program.MethodAt.{MethodAt}
use Rattle.program_model.specs.declared.program.Program.{Program}
use Rattle.class_defs.proofs.WellFormed.{and_left, and_right, Sound, class_parts}
use Rattle.dalvik_defs.specs.Face.{bodies_of}
use Rattle.dalvik_defs.specs.Find.{method_in}
use Rattle.dalvik_defs.specs.Names.{Text, same_name, signature_eq, text_eq}
use Rattle.dalvik_defs.specs.Naming.{body_of, form_of, method_at, named, named_class, named_method, type_at}
use Rattle.dalvik_defs.specs.Under.{class_named}
use Rattle.dalvik_defs.specs.declared.names.MethodKey.{MethodKey}
use Rattle.dalvik_defs.specs.declared.names.Signature.{Signature}
use Rattle.dalvik_defs.specs.declared.program.NamedBody.{NamedBody}
use Rattle.dalvik_defs.specs.declared.program.NamedClass.{NamedClass}
use Rattle.dalvik_defs.specs.declared.program.NamedMethod.{NamedMethod}
use Rattle.dalvik_defs.proofs.Calm.{text_sound}
use Rattle.name_bridge.proofs.Tables.{method_is}
use Rattle.dom_frame.specs.Registers.{Registers}
use Rattle.facts.specs.declared.facts.Facts as table
use Rattle.closed_facts.specs.Tables as number
use Rattle.closed_facts.specs.Tables.{registers_at}
use Rattle.run_facts.specs.Closed as name
use Rattle.facts_kept.specs.Names.{method_number, named_facts, registers_by, values, values_of}
use Rattle.facts_kept.proofs.Numbers.{IsNumber, number_of_method, signature_sound}

-- ---- lists

-- what a search among images finds
pub record FoundAt {A B : Type 0} (g : A → B) (t : B → Bool) (xs : List A) (y : B) : Type 0 where
  pub place : ℕ
  pub entry : A
  pub is_entry : slice_get xs place ≡ Some entry
  pub is : g entry ≡ y
  pub passes : t y ≡ true

pub found_at : {A B : Type 0} (g : A → B) (t : B → Bool) (xs : List A) (y : B) → find t (map g xs) ≡ Some y → FoundAt g t xs y
found_at g t [] y e = none_some y e
found_at {A} {B} g t (x ∷ xs) y e = by (t (g x)) refl e (found_at g t xs y)
  where
    by : (b : Bool) → t (g x) ≡ b → cond b (Some (g x)) (find t (map g xs)) ≡ Some y → (find t (map g xs) ≡ Some y → FoundAt g t xs y) → FoundAt g t (x ∷ xs) y
    by true h e more = let same : g x ≡ y = some_same (g x) y e in record { place = 0; entry = x; is_entry = refl; is = same; passes = subst (λ z. t z ≡ true) same h }
    by false h e more = let r = more e in record { place = suc r.place; entry = r.entry; is_entry = r.is_entry; is = r.is; passes = r.passes }

module _ (p : Program) (s : Sound p) where
  -- the key of a method of a class by the method's number
  pub own_key : (i j : ℕ) (c : Class) (m : Method) → slice_get p.classes i ≡ Some c → slice_get c.methods j ≡ Some m
      → IsNumber p s (record { class = type_at p c.name; name = (named_method p m).name; signature = (named_method p m).signature }) m.name
  own_key i j c m e f =
      let g = (class_parts p s i c e).methods j m f in
      record {
        low = got_short p.methods m.name g.entry g.is;
        named = ap (λ x. record { class = x; name = (method_at p m.name).name; signature = (method_at p m.name).signature }) (ap (λ k. k.class) (method_is p s m.name g.entry g.is) ∙ ap (type_at p) g.owner);
      }

  -- ---- a method with code

  pub record CodedAt (k : MethodKey) (b : NamedBody) : Type 0 where
    pub at : MethodAt
    pub class : Class
    pub method : Method
    pub body : Body
    pub is_class : slice_get p.classes at.class ≡ Some class
    pub is_method : slice_get class.methods at.place ≡ Some method
    pub has_body : method.body ≡ Some body
    pub body_is : body_of p body ≡ b
    pub class_is : type_at p class.name ≡ k.class
    pub number : IsNumber p s k method.name

  pub coded_at : (k : MethodKey) (b : NamedBody) → bodies_of (named p) k ≡ Some b → CodedAt k b
  coded_at k b e = by_class (class_named (named p) k.class) refl e
    where
      by_method : (c : NamedClass) (x : Option NamedMethod) → class_named (named p) k.class ≡ Some c → method_in c k.name k.signature ≡ x → option_and_then (λ m. m.body) x ≡ Some b → CodedAt k b
      by_method c None i j h = none_some b h
      by_method c (Some m) i j h =
          let x = found_at (named_class p) (λ c. text_eq c.name k.class) p.classes c i in
          let y = found_at (named_method p) (λ m. same_name m.name m.signature k.name k.signature) x.entry.methods m (subst (λ c. method_in c k.name k.signature ≡ Some m) (sym x.is) j) in
          let d = before_map (body_of p) y.entry.body b (ap (λ m. m.body) y.is ∙ h) in
          let class : type_at p x.entry.name ≡ k.class = ap (λ c. c.name) x.is ∙ text_sound c.name k.class x.passes in
          let name = ap (λ m. m.name) y.is ∙ text_sound m.name k.name (and_left (text_eq m.name k.name) (signature_eq m.signature k.signature) y.passes) in
          let signature = ap (λ m. m.signature) y.is ∙ signature_sound m.signature k.signature (and_right (text_eq m.name k.name) (signature_eq m.signature k.signature) y.passes) in
          let own = own_key x.place y.place x.entry y.entry x.is_entry y.is_entry in
          record {
            at = record { class = x.place; place = y.place };
            class = x.entry;
            method = y.entry;
            body = d.0;
            is_class = x.is_entry;
            is_method = y.is_entry;
            has_body = d.1.0;
            body_is = d.1.1;
            class_is = class;
            number = record { low = own.low; named = own.named ∙ key_same class name signature };
          }
        where
          key_same : {c n : Text} {g : Signature} → c ≡ k.class → n ≡ k.name → g ≡ k.signature → record { class = c; name = n; signature = g } ≡ k
          key_same a b d = λ i. record { class = a i; name = b i; signature = d i }

      by_class : (o : Option NamedClass) → class_named (named p) k.class ≡ o → option_and_then (λ m. m.body) (elim o as (λ o. Option NamedMethod) [ Some c ↦ method_in c k.name k.signature | None ↦ None ]) ≡ Some b → CodedAt k b
      by_class None i h = none_some b h
      by_class (Some c) i h = by_method c (method_in c k.name k.signature) i refl h

  pub looked_up : (at : MethodAt) (c : Class) (m : Method) → slice_get p.classes at.class ≡ Some c → slice_get c.methods at.place ≡ Some m → look.method_at p at ≡ Some m
  looked_up at c m e f = ap (λ o. option_and_then (λ c. slice_get c.methods at.place) o) e ∙ f

  -- ---- a reached position

  module _ (t : table.Facts) where
    pub record Here (k : MethodKey) (n : ℕ) (h : name.At (values p) (named p) (named_facts p t) k n) : Type 0 where
      pub code : CodedAt k h.body
      pub here : number.At p t code.at n
      pub number : IsNumber p s k here.method.name
      pub body_is : body_of p here.body ≡ h.body
      pub form_is : form_of p here.insn ≡ h.form
      pub registers_are : values_of here.registers ≡ h.registers

    pub at_number : (k : MethodKey) (m n : ℕ) → IsNumber p s k m → registers_by t (method_number p k) n ≡ option_map values_of (registers_at t m n)
    at_number k m n h = ap (λ o. registers_by t o n) (number_of_method p s k m h)

    pub here_at : (k : MethodKey) (n : ℕ) (h : name.At (values p) (named p) (named_facts p t) k n) → Here k n h
    here_at k n h =
        let c = coded_at k h.body h.has_body in
        let x = before_map values_of (registers_at t c.method.name n) h.registers (sym (at_number k c.method.name n c.number) ∙ h.reached) in
        let i = before_map (form_of p) (slice_get c.body.insns n) h.form (sym (get_map (form_of p) c.body.insns n) ∙ ap (λ b. slice_get b.forms n) c.body_is ∙ h.has_form) in
        record {
          code = c;
          here = record {
            method = c.method;
            body = c.body;
            insn = i.0;
            registers = x.0;
            has_method = looked_up c.at c.class c.method c.is_class c.is_method;
            has_body = c.has_body;
            has_insn = i.1.0;
            reached = x.1.0;
          };
          number = c.number;
          body_is = c.body_is;
          form_is = i.1.1;
          registers_are = x.1.1;
        }

    -- ---- what comes there

    pub arrives_named : (k : MethodKey) (m q : ℕ) (x : Registers) → IsNumber p s k m → number.Arrives x (registers_at t m q) → name.Arrives (values p) (values_of x) (registers_by t (method_number p k) q)
    arrives_named k m q x h a = subst (λ o. name.Arrives (values p) (values_of x) o) (sym (at_number k m q h)) (by (registers_at t m q) a)
      where
        by : (o : Option Registers) → number.Arrives x o → name.Arrives (values p) (values_of x) (option_map values_of o)
        by None b = b
        by (Some y) b = b
