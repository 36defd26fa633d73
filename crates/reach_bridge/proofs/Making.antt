-- Kept classes of which there can be objects are made by name, and those of which live code makes objects.
use Rattle.std.proofs.Common.{◌≡◌, ℕ, Bool, true, false, [], ◌∷◌, Option, Some, None, refl, sym, ap, ◌∙◌, subst}
use Rattle.std.specs.Prelude.{◌&&◌, not, cond, Contains, slice_get, option_and_then}
use Rattle.insn_set.specs.declared.form.Insn.{Insn}
use Rattle.program_model.specs.declared.program.Program.{Program}
use Rattle.program_model.specs.declared.pass.Outside.{Outside}
use Rattle.call_graph.specs.Bases.{bases_of}
use Rattle.call_graph.specs.declared.facts.Fact.TheVariants as fact
use Rattle.call_graph.specs.declared.live_set.LiveSet.{LiveSet}
use Rattle.call_graph.specs.declared.named.Named.TheVariants as item
use Rattle.call_graph.specs.Names.{code_names}
use Rattle.call_graph.specs.Follows as follow
use Rattle.call_graph.specs.Follows.{class_of, can_be_made, made_of, made_facts, kind_facts, names_of_method, named_facts}
use Rattle.dalvik_defs.specs.Names.{Text}
use Rattle.dalvik_defs.specs.Naming.{type_at, named}
use Rattle.dalvik_defs.specs.Under.{class_named}
use Rattle.dalvik_defs.specs.Flags.{is_interface, is_abstract}
use Rattle.dalvik_defs.specs.Outer.{outer_of}
use Rattle.dalvik_defs.specs.declared.program.NamedClass.{NamedClass}
use Rattle.dalvik_defs.specs.declared.names.MethodKey.{MethodKey}
use Rattle.dalvik_defs.specs.declared.forms.Form.TheVariants as form
use Rattle.dalvik_defs.specs.declared.program.NamedBody.{NamedBody}
use Rattle.pass_defs.specs.Live.{conditions_of, HasBody, is_concrete, KeepsMade}
use Rattle.removal_law.proofs.Lists.{In, here, clash, contained}
use Rattle.removal_law.proofs.Trees.{defined}
use Rattle.reach_bridge.specs.Names.{family_of}
use Rattle.reach.specs.Marked.{IsMarked}
use Rattle.reach_bridge.proofs.Held.{stands, made_met}
use Rattle.reach_bridge.proofs.Based.{Met}
use Rattle.reach_bridge.proofs.Mentioned.{met_back, met_one}
use Rattle.reach_bridge.proofs.Coded.{LiveCode, IsNew, live_code, named_met, body_named, insn_named, form_from, insn_new}
use Rattle.reach_bridge.proofs.Upward.{OwnClass, own_class}
use Rattle.reach_bridge.proofs.Keeping.{named_short, made_kept, constructed_made, concrete_can}

module _ (p : Program) (o : Outside) (s : LiveSet) (g : IsMarked p o s) where
  -- a class of a new object is made, if it can be
  new_made : (m : MethodKey) (b : NamedBody) (l : LiveCode p s m b) (i : Insn) (at : In i l.body.insns) (t : Text) (r : IsNew p i t) (c : NamedClass) → class_named (named p) (type_at p r.number) ≡ Some c
      → ((own : OwnClass p r.number c) → class_of p r.number ≡ Some own.class → Contains (code_names l.own.method.body) (item.Made r.number) → can_be_made own.class ≡ true) → (family_of p s).made t ≡ true
  new_made m b l i at t r c is can =
      let short = named_short p o s g r.number (defined (named p) (type_at p r.number) c is) in
      let own = own_class p o s g r.number short c is in
      let class_is : class_of p r.number ≡ Some own.class = ap (option_and_then (slice_get p.classes)) own.is_place ∙ own.is_class in
      let in_body = insn_named p o s g m b l i (item.Made r.number) at r.names in
      let there = contained (item.Made r.number) (code_names l.own.method.body) (subst (λ z. In (item.Made r.number) (code_names z)) (sym l.is_body) in_body) in
      let facts : made_facts p r.number ≡ fact.Made r.number ∷ [] = ap (made_of r.number) class_is ∙ ap (λ b. cond b (fact.Made r.number ∷ []) []) (can own class_is there) in
      let met : Met s (made_facts p r.number) = met_back p o s g (kind_facts (bases_of p) r.number) (made_facts p r.number)
      (met_one p o s g (named_facts p (bases_of p)) (names_of_method (follow.own_method p l.number.number)) (item.Made r.number) (named_met p o s g m b l) (body_named p o s g m b l (item.Made r.number) in_body)) in
      ap (family_of p s).made (sym r.is) ∙ made_met p s g.sized r.number short (met (fact.Made r.number) (subst (In (fact.Made r.number)) (sym facts) (here [])))

  makes_new : (m : MethodKey) (b : NamedBody) (to : ℕ) (t : Text) → HasBody (named p) (family_of p s) m b → Contains b.forms (form.NewInstance to t) → is_concrete (named p) t ≡ true → (family_of p s).made t ≡ true
  makes_new m b to t h c d =
      let l = live_code p o s g m b h in
      let f = form_from p o s g m b l (form.NewInstance to t) (stands b.forms (form.NewInstance to t) c) in
      let r = insn_new p s f.0 to t f.1.1 in
      by l f.0 f.1.0 r (class_named (named p) t) refl d
    where
      by : (l : LiveCode p s m b) (i : Insn) → In i l.body.insns → (r : IsNew p i t) (x : Option NamedClass) → class_named (named p) t ≡ x
          → elim x as (λ x. Bool) [ Some c ↦ not (is_interface c.flags) && not (is_abstract c.flags) | None ↦ false ] ≡ true → (family_of p s).made t ≡ true
      by l i at r None is e = clash false e refl
      by l i at r (Some c) is e = new_made m b l i at t r c (ap (class_named (named p)) r.is ∙ is) (λ own class_is there. concrete_can p own.class c own.is e)

  pub keeps_made : KeepsMade (named p) (outer_of p o) (conditions_of p o) (family_of p s)
  keeps_made = record { kept = made_kept p o s g; constructed = constructed_made p o s g; news = makes_new }
