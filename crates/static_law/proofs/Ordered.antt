-- A typed program stays typed with the methods of its classes in another order, if methods are told apart.
use Rattle.std.proofs.Common.{◌≡◌, ℕ, zero, suc, ◌<◌, inl, inr, true, List, [], ◌∷◌, ◌++◌, length, refl, sym, ap, ◌∙◌, subst, arith}
use std.Path.{fun_ext}
use Rattle.std.specs.Prelude.{Option, Some, None, map, flat_map, slice_index_or, Contains}
use Rattle.std.specs.Option.{option_map}
use Rattle.dalvik_defs.specs.Find.{Found, chain_of, first_method, interfaces_from, resolves_method}
use Rattle.dalvik_defs.specs.Names.{Text}
use Rattle.dalvik_defs.specs.Under.{class_named}
use Rattle.dalvik_defs.specs.declared.names.MethodKey.{MethodKey}
use Rattle.dalvik_defs.specs.declared.program.NamedBody.{NamedBody}
use Rattle.dalvik_defs.specs.declared.program.NamedClass.{NamedClass}
use Rattle.dalvik_defs.specs.declared.program.NamedMethod.{NamedMethod}
use Rattle.dalvik_defs.specs.declared.program.NamedProgram.{NamedProgram}
use Rattle.pass_defs.specs.Live.{everything}
use Rattle.pass_defs.specs.Typed.{Table, IsTyping, IsTyped}
use Rattle.removal_law.specs.Left.{In, here, there}
use Rattle.removal_law.specs.Reach.{NamesOnce, TellsApart}
use Rattle.removal_law.proofs.Finds.{out_of_flat}
use Rattle.removal_law.proofs.Lists.{contained, in_either}
use Rattle.removal_law.proofs.Trees.{chain_named, class_name}
use Rattle.program_laws.proofs.AlikeLookUps.{Alike, typing_moved}
use Rattle.program_laws.proofs.Heads.{class_case}
use Rattle.program_laws.proofs.ChangedLists.{flat_mapped, flat_same}
use Rattle.lemmas.proofs.Lists.{map_append}
use Rattle.program_laws.proofs.Moved.{image}
use Rattle.program_laws.specs.Remade.{AnswersAlike, Remethod, SameMethods, class_remade, remade}
use Rattle.program_laws.proofs.Remade.{chain_same, class_same, count, field_same}
use Rattle.program_laws.proofs.Order.{first_same, kept, members_alike, super_same}
use Rattle.static_law.proofs.Lines.{plain_same, program_interface_same, nearest_same, instance_same}

in_place : {A : Type 0} (xs : List A) (n : ℕ) (x : A) → n < length xs → slice_index_or xs n x ≡ x → In x xs
in_place [] n x lt e = absurd (omega (arith, lt))
in_place (y ∷ ys) zero x lt e = subst (λ z. In z (y ∷ ys)) e (here ys)
in_place (y ∷ ys) (suc n) x lt e = there y ys (in_place ys n x (omega (arith, lt)) e)

-- what a list contains is in it
in_from : {A : Type 0} (xs : List A) (x : A) → Contains xs x → In x xs
in_from xs x h = in_place xs h.0 x h.1 h.2

module _ (new : Remethod) (p : NamedProgram) where
  abbrev q : NamedProgram
  q = remade new p

  abbrev other : NamedClass → NamedClass
  other = class_remade new

  -- ---- what names resolve to

  abbrev interfaces_case : (List Text → List NamedClass) → NamedClass → List NamedClass
  interfaces_case next c = c ∷ next c.interfaces

  interfaces_same : (n : ℕ) → interfaces_from n q ≡ (λ ts. map other (interfaces_from n p ts))
  interfaces_same zero = refl
  interfaces_same (suc n) = fun_ext (λ ts.
      ap (λ next. flat_map (λ t. class_case (interfaces_case next) [] (class_named q t)) ts) (interfaces_same n)
      ∙ ap (λ f. flat_map f ts) (fun_ext (λ t. ap (class_case (interfaces_case (λ ts. map other (interfaces_from n p ts))) []) (class_same new p t) ∙ by (class_named p t)))
      ∙ flat_mapped (λ t. class_case (interfaces_case (interfaces_from n p)) [] (class_named p t)) other ts)
    where
      by : (o : Option NamedClass) → class_case (interfaces_case (λ ts. map other (interfaces_from n p ts))) [] (option_map other o) ≡ map other (class_case (interfaces_case (interfaces_from n p)) [] o)
      by None = refl
      by (Some c) = refl

  -- they stand under their names
  interfaces_named : (n : ℕ) (ts : List Text) (c : NamedClass) → In c (interfaces_from n p ts) → class_named p c.name ≡ Some c
  interfaces_named zero ts c i = elim i [ ]
  interfaces_named (suc n) ts c i =
      let r = out_of_flat (λ t. class_case (interfaces_case (interfaces_from n p)) [] (class_named p t)) c ts i in
      by r.0 (class_named p r.0) refl (interfaces_named n) r.1.1
    where
      in_front : (t : Text) (d : NamedClass) → class_named p t ≡ Some d → ((ts : List Text) (c : NamedClass) → In c (interfaces_from n p ts) → class_named p c.name ≡ Some c) → (c : NamedClass) → In c (d ∷ interfaces_from n p d.interfaces) → class_named p c.name ≡ Some c
      in_front t d e more _ (here cs) = ap (class_named p) (class_name p t d e) ∙ e
      in_front t d e more c (there d' cs j) = more d.interfaces c j

      by : (t : Text) (o : Option NamedClass) → class_named p t ≡ o → ((ts : List Text) (c : NamedClass) → In c (interfaces_from n p ts) → class_named p c.name ≡ Some c) → In c (class_case (interfaces_case (interfaces_from n p)) [] o) → class_named p c.name ≡ Some c
      by t None e more j = elim j [ ]
      by t (Some d) e more j = in_front t d e more c j

  module _ (alike : AnswersAlike new p) where
    resolves_at : (k : MethodKey) → resolves_method q k ≡ resolves_method p k
    resolves_at k =
        ap (λ cs. first_method (λ m. true) k.name k.signature (cs ++ interfaces_from (length q.classes) q (flat_map (λ c. c.interfaces) cs))) (chain_same new p k.class)
        ∙ ap (λ ts. first_method (λ m. true) k.name k.signature (map other (chain_of p k.class) ++ interfaces_from (length q.classes) q ts)) (flat_same (λ c. c.interfaces) other (λ c. refl) (chain_of p k.class))
        ∙ ap (λ n. first_method (λ m. true) k.name k.signature (map other (chain_of p k.class) ++ interfaces_from n q (flat_map (λ c. c.interfaces) (chain_of p k.class)))) (count new p)
        ∙ ap (λ f. first_method (λ m. true) k.name k.signature (map other (chain_of p k.class) ++ f (flat_map (λ c. c.interfaces) (chain_of p k.class)))) (interfaces_same (length p.classes))
        ∙ ap (first_method (λ m. true) k.name k.signature) (sym (map_append other (chain_of p k.class) (interfaces_from (length p.classes) p (flat_map (λ c. c.interfaces) (chain_of p k.class)))))
        ∙ first_same new p alike (λ m. true) k.name k.signature (chain_of p k.class ++ interfaces_from (length p.classes) p (flat_map (λ c. c.interfaces) (chain_of p k.class)))
        (λ c i. elim (in_either c (chain_of p k.class) (interfaces_from (length p.classes) p (flat_map (λ c. c.interfaces) (chain_of p k.class))) i) [
          | inl j ↦ chain_named p everything (kept new p alike) (length p.classes) k.class c j
          | inr j ↦ interfaces_named (length p.classes) (flat_map (λ c. c.interfaces) (chain_of p k.class)) c j
        ])

    kinds_alike : Alike p q
    kinds_alike = record {
      plain = plain_same new p;
      interface = program_interface_same new p;
      near = nearest_same new p;
      field = field_same new p;
      resolves = fun_ext resolves_at;
      super = super_same new p alike;
      instance = instance_same new p;
    }

  -- ---- typings

  pub ordered_typed : TellsApart p → NamesOnce p → SameMethods new p → IsTyped p → IsTyped q
  ordered_typed tells once same typed = record { bodies = in_program }
    where
      in_class : (c : NamedClass) (m : NamedMethod) (b : NamedBody) → Contains p.classes c → Contains (new c) m → m.body ≡ Some b → (t : Table) × IsTyping q (other c) m b t
      in_class c m b i j e =
          let stands = once c (in_from p.classes c i) in
          let old = contained m c.methods (same.to c.name c stands m (in_from (new c) m j)) in
          let h = typed.bodies c m b i old e in
          (h.0, (typing_moved p q (kinds_alike (members_alike new p tells same)) c (new c) m (record { body = m.body; lines = m.lines }) b h.0 h.1))

      in_program : (c : NamedClass) (m : NamedMethod) (b : NamedBody) → Contains q.classes c → Contains c.methods m → m.body ≡ Some b → (t : Table) × IsTyping q c m b t
      in_program c m b i j e =
          let r = image other p.classes c i.0 i.1 i.2 in
          subst (λ (x : NamedClass). (t : Table) × IsTyping q x m b t) r.1.1 (in_class r.0 m b r.1.0 (subst (λ (x : NamedClass). Contains x.methods m) (sym r.1.1) j) e)
