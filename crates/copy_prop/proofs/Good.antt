-- For which reads a Move stands.
use Rattle.std.proofs.Common.{◌≡◌, ℕ, ◌+◌, ◌<◌, Bool, true, false, List, [], ◌∷◌, ◌++◌, length, Some, sym, ap, ◌∙◌, arith, ◌⊎◌, inl, inr}
use Rattle.std.specs.Prelude.{◌↔◌, ◌&&◌, not, nat_le}
use Rattle.std.proofs.lemmas.Bool.{cases_eq, both_ways, and_parts, and_from, not-true, not_from_false, false_from_ne_true, leb-true, le-leb}
use Rattle.std.proofs.lemmas.List.{length_push, get_or_append_left, get_or_push}
use Rattle.std.proofs.lemmas.Option.{slice_get_within}
use Rattle.insn_set.specs.Spelling.{is_encodable}
use Rattle.insn_set.specs.declared.form.Insn.{Insn}
use Rattle.program_model.specs.declared.body.Body.{Body}
use Rattle.insn_regs.specs.Wides.{reads_as}
use Rattle.walk_marks.specs.Walks.{is_on}
use Rattle.body_graph.specs.Walks.{insn_at}
use Rattle.copy_prop.specs.Stale.{is_cast, reading, units, StandsFor}
use Rattle.copy_prop.specs.Searches.{AreSteps, AreSpoilt, AreGood, can_read}
use Rattle.copy_prop.specs.declared.steps.Steps.{Steps}
use Rattle.copy_prop.specs.declared.copied.Copied.{Copied}

module _ (w : List (List Bool)) (b : Body) (s : Steps) (steps : AreSteps b s) (c : Copied) (spoilt : List Bool) (are : AreSpoilt b c spoilt) where
  stands_is : (n : ℕ) (f : Insn) (v : Bool) → insn_at b n ≡ Some f → v ≡ ((is_on s.reached.items n && not (is_on spoilt n)) && can_read w c f) → (v ≡ true) ↔ StandsFor w b c.at c.slot c.to c.from n f
  stands_is n f v h is = (to, from)
    where
      lt : n < length b.insns
      lt = slice_get_within b.insns n f h

      to : v ≡ true → StandsFor w b c.at c.slot c.to c.from n f
      to e =
          let p : ((is_on s.reached.items n && not (is_on spoilt n)) ≡ true) × (can_read w c f ≡ true) = and_parts _ _ (sym is ∙ e) in
          let q : (is_on s.reached.items n ≡ true) × (not (is_on spoilt n) ≡ true) = and_parts _ _ p.0 in
          let r : (reads_as w c.slot f c.to ≡ true) × ((not (is_cast f) && (is_encodable (reading c.slot c.to c.from f) && nat_le (units (reading c.slot c.to c.from f)) (units f))) ≡ true) = and_parts _ _ p.1 in
          let t : (not (is_cast f) ≡ true) × ((is_encodable (reading c.slot c.to c.from f) && nat_le (units (reading c.slot c.to c.from f)) (units f)) ≡ true) = and_parts _ _ r.1 in
          let u : (is_encodable (reading c.slot c.to c.from f) ≡ true) × (nat_le (units (reading c.slot c.to c.from f)) (units f) ≡ true) = and_parts _ _ t.1 in
          record {
            reached = (steps.reached n lt).0 q.0;
            kept = λ i. both_ways (is_on spoilt n) (not-true (is_on spoilt n) q.1) ((are.are n lt).1 i);
            apart = c.apart;
            read = r.0;
            plain = not-true (is_cast f) t.0;
            encodable = u.0;
            short = leb-true _ _ u.1;
          }

      from : StandsFor w b c.at c.slot c.to c.from n f → v ≡ true
      from g = is ∙ and_from _ _ (and_from _ _ ((steps.reached n lt).1 g.reached) (not_from_false (is_on spoilt n) (false_from_ne_true (is_on spoilt n) (λ e. g.kept ((are.are n lt).0 e)))))
          (and_from _ _ g.read (and_from _ _ (not_from_false (is_cast f) g.plain) (and_from _ _ g.encodable (le-leb _ _ g.short))))

  pub good_more : (k : ℕ) (f : Insn) (v : Bool) (good : List Bool) → insn_at b k ≡ Some f → v ≡ ((is_on s.reached.items k && not (is_on spoilt k)) && can_read w c f) → AreGood w b c k good → AreGood w b c (k + 1) (good ++ v ∷ [])
  good_more k f v good h is was = record { long = length_push good v ∙ ap (λ n. n + 1) was.long; are = all }
    where
      all : (n : ℕ) (g : Insn) → n < k + 1 → insn_at b n ≡ Some g → (is_on (good ++ v ∷ []) n ≡ true) ↔ StandsFor w b c.at c.slot c.to c.from n g
      all n g lt i = at (cases_eq n k)
        where
          at : (n ≡ k) ⊎ (n ≡ k → ⊥) → (is_on (good ++ v ∷ []) n ≡ true) ↔ StandsFor w b c.at c.slot c.to c.from n g
          at (inl e) = let same : is_on (good ++ v ∷ []) n ≡ v = get_or_push good v false n (was.long ∙ sym e) in
              let here : v ≡ ((is_on s.reached.items n && not (is_on spoilt n)) && can_read w c g) = is ∙ ap (λ x. (is_on s.reached.items k && not (is_on spoilt k)) && can_read w c x) same_insn ∙ ap (λ j. (is_on s.reached.items j && not (is_on spoilt j)) && can_read w c g) (sym e) in
              let t : (v ≡ true) ↔ StandsFor w b c.at c.slot c.to c.from n g = stands_is n g v i here in
              (λ x. t.0 (sym same ∙ x), λ x. same ∙ t.1 x)
            where
              same_insn : f ≡ g
              same_insn = let o : Some f ≡ Some g = sym h ∙ ap (λ j. insn_at b j) (sym e) ∙ i in cc
          at (inr ne) = let below : n < k = omega arith in
              let same : is_on (good ++ v ∷ []) n ≡ is_on good n = get_or_append_left good (v ∷ []) false n (omega (arith, was.long)) in
              let t : (is_on good n ≡ true) ↔ StandsFor w b c.at c.slot c.to c.from n g = was.are n g below i in
              (λ x. t.0 (sym same ∙ x), λ x. same ∙ t.1 x)
