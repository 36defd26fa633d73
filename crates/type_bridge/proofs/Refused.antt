-- A method that the verifier refuses has no typing by names.
use Rattle.std.proofs.Common.{◌≡◌, ℕ, ◌<◌, true, Some, sym, ap, ◌∙◌, subst}
use Rattle.std.specs.Prelude.{slice_get, option_and_then, Contains}
use Rattle.std.specs.Option.{option_map}
use Rattle.hierarchy.specs.Shapes.{IsResolved}
use Rattle.hierarchy.specs.declared.build.Hierarchy.{Hierarchy}
use Rattle.program_model.specs.ProgramRules.{is_well_formed}
use Rattle.program_model.specs.Lookups.{method_at}
use Rattle.program_model.specs.declared.body.Body.{Body}
use Rattle.program_model.specs.declared.program.Class.{Class}
use Rattle.program_model.specs.declared.program.Method.{Method}
use Rattle.program_model.specs.declared.program.MethodAt.{MethodAt}
use Rattle.program_model.specs.declared.program.Program.{Program}
use Rattle.dalvik_defs.specs.Naming.{body_of, named_class, named_method, named}
use Rattle.pass_defs.specs.Typed as typed
use Rattle.verify.specs.declared.fault.TypeFault.TheVariants as fault
use Rattle.verify.specs.declared.typed.Verifier.{Verifier}
use Rattle.verify.specs.Methods.{HasNone, IsFor, RefusesAt, RefusesFirst, RefusesFor, RefusesOne}
use Rattle.verify.specs.Typings.{IsTyping}
use Rattle.type_bridge.proofs.BackTypings.{table_numbered, typing_numbered}
use Rattle.type_bridge.proofs.Bodies.{got_short}
use Rattle.type_bridge.proofs.Programs.{Named, index_map, map_long, program, ground, body, found, entry_same}

module _ (p : Program) (h : Hierarchy) (w : is_well_formed p ≡ true) (r : IsResolved p h) (v : Verifier) (f : IsFor p h v) where
  -- a method whose code has no typing by number has none by name
  none_named : (c : Class) (k : ℕ) (m : Method) (j n q : ℕ) → slice_get p.classes k ≡ Some c → slice_get c.methods j ≡ Some m → (o : HasNone v c k m n q) → Named p c m o.body → ⊥
  none_named c k m j n q is_class is_method o t = by (subst (λ q. Named q c m b) (sym here) t)
    where
      b : Body
      b = o.body

      here : o.setting.program.now ≡ p
      here = program p h w r v f c k m j b is_class is_method o.has o.setting o.is

      by : Named o.setting.program.now c m b → ⊥
      by t =
          let s = o.setting in
          let g = ground p h w r v f c k m j b is_class is_method o.has s o.is in
          let i = body p h w r v f c k m j b is_class is_method o.has s o.is in
          let z = found p h w r v f c k m j b is_class is_method o.has s o.is o.finds in
          let y = table_numbered s c m g b i z t.0 in
          o.ill.none y (subst (λ k. IsTyping s b k y) (sym (entry_same p h w r v f c k m j b is_class is_method o.has s o.is)) (typing_numbered s c m g b i z t.0 t.1))

  -- the method at a place
  place_of_method : (at : MethodAt) (c : Class) (m : Method) → slice_get p.classes at.class ≡ Some c → method_at p at ≡ Some m → slice_get c.methods at.place ≡ Some m
  place_of_method at c m e g = sym (ap (option_and_then (λ c. slice_get c.methods at.place)) e) ∙ g

  refused_at : (at : MethodAt) (k n q : ℕ) → RefusesAt v at (fault.IllTyped k n q) → (c : Class) (m : Method) (b : Body) → slice_get p.classes at.class ≡ Some c → method_at p at ≡ Some m → m.body ≡ Some b → Named p c m b → ⊥
  refused_at at k n q o c m b e g i t =
      let o_class : slice_get p.classes at.class ≡ Some o.class = sym (ap (λ z. slice_get z.classes at.class) f.program) ∙ o.is_class in
      let o_method : method_at p at ≡ Some o.method = sym (ap (λ z. method_at z at) f.program) ∙ o.is_method in
      let x : HasNone v o.class at.class o.method n q = o.refuses.1 in
      let same_class : Some c ≡ Some o.class = sym e ∙ o_class in
      let same_method : Some m ≡ Some o.method = sym g ∙ o_method in
      let one : c ≡ o.class = cc in
      let two : m ≡ o.method = cc in
      let same_body : Some b ≡ Some x.body = sym i ∙ ap (λ z. z.body) two ∙ x.has in
      let three : b ≡ x.body = cc in
      none_named o.class at.class o.method at.place n q o_class (place_of_method at o.class o.method o_class o_method) x
      (subst (Named p o.class o.method) three (subst (λ z. Named p o.class z b) two (subst (λ z. Named p z m b) one t)))

  -- a program of which a method is refused isn't typed
  refused_one : (k n q : ℕ) → RefusesFirst v (fault.IllTyped k n q) → typed.IsTyped (named p) → ⊥
  refused_one k n q o t =
      let c = o.class in
      let m = o.refuses.method in
      let x : HasNone v c o.at m n q = o.refuses.refuses.1 in
      let is : slice_get p.classes o.at ≡ Some c = sym (ap (λ z. slice_get z.classes o.at) f.program) ∙ o.is in
      let has_class : Contains (named p).classes (named_class p c) = (o.at, subst (λ n. o.at < n) (sym (map_long (named_class p) p.classes)) (got_short p.classes o.at c is), index_map (named_class p) p.classes o.at c (named_class p c) is) in
      let has_method : Contains (named_class p c).methods (named_method p m) = (o.refuses.place, subst (λ n. o.refuses.place < n) (sym (map_long (named_method p) c.methods)) (got_short c.methods o.refuses.place m o.refuses.is), index_map (named_method p) c.methods o.refuses.place m (named_method p m) o.refuses.is) in
      none_named c o.at m o.refuses.place n q is o.refuses.is x
      (t.bodies (named_class p c) (named_method p m) (body_of p x.body) has_class has_method (ap (option_map (body_of p)) x.has))

pub refused_method : (p : Program) (h : Hierarchy) → is_well_formed p ≡ true → IsResolved p h → (at : MethodAt) (k n r : ℕ) → RefusesFor p h at (fault.IllTyped k n r) → (c : Class) (m : Method) (b : Body) → slice_get p.classes at.class ≡ Some c
    → method_at p at ≡ Some m → m.body ≡ Some b → (t : typed.Table) → typed.IsTyping (named p) (named_class p c) (named_method p m) (body_of p b) t → ⊥
refused_method p h w r at k n q o c m b e g i t y = refused_at p h w r o.verifier o.is at k n q o.refuses c m b e g i (t, y)

pub refused_program : (p : Program) (h : Hierarchy) → is_well_formed p ≡ true → IsResolved p h → (k n r : ℕ) → RefusesOne p h (fault.IllTyped k n r) → typed.IsTyped (named p) → ⊥
refused_program p h w r k n q o t = refused_one p h w r o.verifier o.is k n q o.refuses t
