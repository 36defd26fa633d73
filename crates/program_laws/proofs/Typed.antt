-- Programs that are the same but for bodies and lines answer typing alike, so new bodies that have typings in the one make the
-- other typed.
use Rattle.std.proofs.Common.{◌≡◌, zero, suc, List, [], ◌∷◌, refl, sym, ap, ◌∙◌, subst, arith}
use Rattle.std.specs.Prelude.{Some, Contains}
use Rattle.dalvik_defs.specs.Find.{finds_field, resolves_method, finds_super}
use Rattle.dalvik_defs.specs.Silence.{key_in}
use Rattle.dalvik_defs.specs.declared.program.NamedBody.{NamedBody}
use Rattle.dalvik_defs.specs.declared.program.NamedMethod.{NamedMethod}
use Rattle.dalvik_defs.specs.declared.program.NamedClass.{NamedClass}
use Rattle.dalvik_defs.specs.declared.program.NamedProgram.{NamedProgram}
use Rattle.pass_defs.specs.Kinds.{is_plain, is_program_interface, nearest}
use Rattle.pass_defs.specs.Typed.{wrong_instance, Table, IsTyping, IsTyped}
use Rattle.program_laws.specs.Bodies.{changed}
use Rattle.program_laws.proofs.AlikeLookUps.{Alike, typing_moved}
use Rattle.program_laws.proofs.Moved.{others_alike}
use Rattle.program_laws.specs.Others.{Pairwise, Codes, OtherMethod, OtherClass, OtherBodies}
use Rattle.program_laws.proofs.Faces.{blank, blank_coded, program_blank}

-- what stands in the one list is related to something in the other
pair_at : {A : Type 0} (R : A → A → Type 0) (xs ys : List A) (y : A) → Pairwise R xs ys → Contains ys y → (x : A) × (Contains xs x × R x y)
pair_at R [] [] y r (k, l, e) = let f : ⊥ = omega (arith, l) in absurd f
pair_at R [] (b ∷ ys) y r i = absurd r
pair_at R (a ∷ xs) [] y r i = absurd r
pair_at R (a ∷ xs) (b ∷ ys) y r (zero, l, e) = (a, ((0, omega arith, refl), subst (R a) e r.0))
pair_at R (a ∷ xs) (b ∷ ys) y r (suc k, l, e) =
    let h = pair_at R xs ys y r.1 (k, omega (arith, l), e) in
    let m = h.1.0.1 in
    (h.0, ((suc h.1.0.0, omega (arith, m), h.1.0.2), h.1.1))

module _ (R : Codes) (p q : NamedProgram) (others : OtherBodies R p q) where
  alike : Alike p q
  alike =
      let e : changed blank q ≡ changed blank p = program_blank R p q others in
      let a = others_alike blank blank_coded p in
      let b = others_alike blank blank_coded q in
      record {
        plain = sym b.plain ∙ ap is_plain e ∙ a.plain;
        interface = sym b.interface ∙ ap is_program_interface e ∙ a.interface;
        near = sym b.near ∙ ap nearest e ∙ a.near;
        field = sym b.field ∙ ap finds_field e ∙ a.field;
        resolves = sym b.resolves ∙ ap resolves_method e ∙ a.resolves;
        super = sym b.super ∙ ap finds_super e ∙ a.super;
        instance = sym b.instance ∙ ap wrong_instance e ∙ a.instance;
      }

  module _ (typed : (c : NamedClass) (m : NamedMethod) (b : NamedBody) → Contains p.classes c → Contains c.methods m → R (key_in c m) m.body (Some b) → (t : Table) × IsTyping p c m b t) where
    in_method : (c d : NamedClass) (m n : NamedMethod) (b : NamedBody) → Contains p.classes c → Contains c.methods m → OtherClass R c d → OtherMethod R c m n → n.body ≡ Some b → (t : Table) × IsTyping q d n b t
    in_method c d m n b i j o h e =
        let t = typed c m b i j (subst (λ z. R (key_in c m) m.body z) e h.related) in (
          t.0,
          subst (λ x. IsTyping q x n b t.0) (sym o.same) (subst (λ x. IsTyping q (record c { methods = d.methods }) x b t.0) (sym h.same)
              (typing_moved p q alike c d.methods m (record { body = n.body; lines = n.lines }) b t.0 t.1)),
        )

    in_class : (d : NamedClass) (n : NamedMethod) (b : NamedBody) → Contains q.classes d → Contains d.methods n → n.body ≡ Some b → (t : Table) × IsTyping q d n b t
    in_class d n b i j e =
        let x = pair_at (OtherClass R) p.classes q.classes d others.classes i in
        let y = pair_at (OtherMethod R x.0) x.0.methods d.methods n x.1.1.methods j in
        in_method x.0 d y.0 n b x.1.0 y.1.0 x.1.1 y.1.1 e

    pub others_typed : IsTyped q
    others_typed = record { bodies = in_class }
