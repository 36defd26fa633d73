-- Where nothing is counted, nothing stands that a squeeze takes out.
use Rattle.std.proofs.Common.{◌≡◌, ◌⊎◌, inl, inr, ℕ, suc, ◌+◌, ◌<◌, Bool, true, false, ◌||◌, not, if◌then◌else◌, List, [], ◌∷◌, ◌++◌, length, Some, slice_get, nat_eq, Contains, refl, sym, ap, ◌∙◌, subst, arith}
use Rattle.std.specs.List.{list_any}
use Rattle.std.proofs.lemmas.Bool.{eqb-true, eq-eqb}
use Rattle.std.proofs.lemmas.List.Elements.{Contains-append_right}
use Rattle.insn_set.specs.Flow.{targets_of}
use Rattle.insn_set.specs.declared.form.Insn.{Insn}
use Rattle.insn_set.specs.declared.form.Insn.TheVariants as insn
use Rattle.program_model.specs.declared.body.Body.{Body}
use Rattle.program_model.specs.declared.program.Program.{Program}
use Rattle.program_model.specs.declared.pass.Changed.{Changed}
use Rattle.body_edit.specs.declared.fate.Fate.{Fate}
use Rattle.body_edit.specs.declared.fate.Fate.TheVariants.{Stays, Empties, Goes}
use Rattle.flow_cfg.specs.Walks.{next_of, successors_of}
use Rattle.walk_marks.specs.Walks.{is_on}
use Rattle.body_graph.specs.Walks.{Walk, IsReached}
use Rattle.body_graph.specs.Walks as walk
use Rattle.body_graph.proofs.Members.{first, there, get_inside}
use Rattle.body_graph.proofs.Links.{step_on}
use Rattle.thin_pass.specs.Wishing.{wish_at, is_to_go, goes, fates_from}
use Rattle.thin_pass.specs.Plans.{changed_in, IsThinnedBy}
use Rattle.thin_pass.proofs.Unchanged.{IsHeldBy, Keeps, Wished, IsNop, IsHeld, keeps, unchanged_body}
use Rattle.squeeze.specs.Skipping.{passes, wish_for, AreSkips}
use Rattle.squeeze.specs.Needed.{IsNeeded, NothingLeft}

walk_more : (next : ℕ → List ℕ) (a n m : ℕ) → Walk next a n → Contains (next n) m → Walk next a m
walk_more next a n m (walk.Stays k) c = walk.Goes n m m c (walk.Stays m)
walk_more next a n m (walk.Goes k j l step rest) c = walk.Goes a j m step (walk_more next j n m rest c)

-- a number that a list has by a test
has : (n : ℕ) (ts : List ℕ) → list_any (nat_eq n) ts ≡ true → Contains ts n
has n [] e = cc
has n (t ∷ ts) e = by (nat_eq n t) refl e (has n ts)
  where
    by : (b : Bool) → nat_eq n t ≡ b → (b || list_any (nat_eq n) ts) ≡ true → (list_any (nat_eq n) ts ≡ true → Contains ts n) → Contains (t ∷ ts) n
    by true d h again = subst (λ (k : ℕ). Contains (t ∷ ts) k) (sym (eqb-true n t d)) (first t ts)
    by false d h again = there t ts n (again h)

module _ (b : Body) (ws : List Fate) (s : AreSkips b ws) (stay : changed_in (fates_from b.insns ws 0 (length b.insns)) ≡ 0) where
  wish_is : (n : ℕ) (i : Insn) → slice_get b.insns n ≡ Some i → wish_at ws n ≡ wish_for (is_on s.marks n) n i
  wish_is n i e = s.are.each n i e

  stays_reached : (r : Bool) (n : ℕ) (i : Insn) → wish_for r n i ≡ Stays → (r ≡ true) × (passes n i ≡ false)
  stays_reached true n i e = (refl, by (passes n i) e)
    where
      by : (p : Bool) → (if p then Goes else Stays) ≡ Stays → p ≡ false
      by true h = cc
      by false h = refl
  stays_reached false n i e = cc

  never_empties : (r : Bool) (n : ℕ) (i : Insn) → wish_for r n i ≡ Empties → ⊥
  never_empties true n i e = by (passes n i) e
    where
      by : (p : Bool) → (if p then Goes else Stays) ≡ Empties → ⊥
      by true h = cc
      by false h = cc
  never_empties false n i e = cc

  not_to_go : (r : Bool) (n : ℕ) (i : Insn) → goes (wish_for r n i) ≡ false → r ≡ true
  not_to_go true n i e = refl
  not_to_go false n i e = cc

  -- what is held is reached, since the branch behind it is
  held_reached : (n : ℕ) → IsHeldBy b.insns ws n → IsReached b n
  held_reached n h =
      let on : is_on s.marks (n + 1) ≡ true = not_to_go (is_on s.marks (n + 1)) (n + 1) h.next (sym (ap goes (wish_is (n + 1) h.next h.has_next)) ∙ h.stays) in
      walk_more (successors_of b) 0 (n + 1) n ((s.reached (n + 1) (get_inside b.insns (n + 1) h.next h.has_next)).0 on)
      (step_on b (n + 1) n h.next h.has_next (Contains-append_right (next_of (n + 1) h.next) (targets_of h.next) n (has n (targets_of h.next) h.leads_back)))

  no_nop : (n : ℕ) (i : Insn) → i ≡ insn.Goto (n + 1) → passes n i ≡ true
  no_nop n i e = ap (passes n) e ∙ eq-eqb (n + 1) (n + 1) refl

  needed : (n : ℕ) (i : Insn) → slice_get b.insns n ≡ Some i → IsNeeded b n i
  needed n i e = by (keeps b.insns ws stay n i e)
    where
      by : Keeps b.insns ws n i → IsNeeded b n i
      by (Wished w) = let r = stays_reached (is_on s.marks n) n i (sym (wish_is n i e) ∙ w) in record {
        reached = (s.reached n (get_inside b.insns n i e)).0 r.0;
        no_skip = λ g. let t : passes n i ≡ true = no_nop n i g in let f : passes n i ≡ false = r.1 in cc;
        held = λ g. let t : passes n i ≡ true = ap (passes n) g in let f : passes n i ≡ false = r.1 in cc;
      }
      by (IsNop w j) = absurd (never_empties (is_on s.marks n) n i (sym (wish_is n i e) ∙ w))
      by (IsHeld w j h) = record {
        reached = held_reached n h;
        no_skip = λ g. cc;
        held = λ g. (h.next, (h.has_next, h.leads_back));
      }

pub nothing_left : (admitted : List Bool) (p : Program) (c : Changed) → IsThinnedBy AreSkips admitted p c → c.count ≡ 0 → NothingLeft admitted p
nothing_left admitted p c t e k m b i j on small h n x g = let w = unchanged_body AreSkips admitted p c t e k m b i j on small h in needed b w.0 w.1.0 w.1.1 n x g
