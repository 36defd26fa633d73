-- What a squeeze wishes for a body is right, and loses nothing that is seen.
use Rattle.std.proofs.Common.{◌≡◌, ◌⊎◌, inl, inr, ℕ, zero, suc, ◌+◌, ◌<◌, ◌≤◌, Bool, true, false, true≢false, if◌then◌else◌, not, ◌&&◌, ◌||◌, List, [], ◌∷◌, ◌++◌, length, Option, Some, None, slice_get, Contains, refl, sym, ap, ◌∙◌, subst, arith, lt-ltb, ltb-true}
use Rattle.std.specs.Prelude.{nat_eq, nat_le, nat_lt}
use Rattle.std.specs.Option.{option_map}
use Rattle.std.proofs.lemmas.Bool.{eqb-true, leb-true}
use Rattle.std.proofs.lemmas.List.{length-map}
use Rattle.lemmas.proofs.Bools.{and_right}
use Rattle.insn_set.specs.Flow.{throws, goes_on, targets_of}
use Rattle.insn_set.specs.declared.form.Insn.{Insn}
use Rattle.insn_set.specs.declared.form.Insn.TheVariants as insn
use Rattle.insn_set.specs.declared.ops.Slot.{Slot}
use Rattle.program_model.specs.BodyRules.{has_result, may_enter, may_follow, body_fits}
use Rattle.program_model.specs.RegionRules.{may_begin}
use Rattle.program_model.specs.declared.body.Body.{Body}
use Rattle.program_model.specs.declared.body.Region.{Region}
use Rattle.program_model.specs.declared.program.Program.{Program}
use Rattle.dalvik_defs.specs.Naming.{form_of, body_of}
use Rattle.dalvik_defs.specs.declared.forms.Form.{Form}
use Rattle.dalvik_defs.specs.declared.forms.Form.TheVariants as form
use Rattle.pass_defs.specs.Thinned.{Fate as Meant, stays, place}
use Rattle.pass_defs.specs.Walks.{form_at}
use Rattle.pass_defs.specs.Walks as named
use Rattle.body_edit.specs.declared.fate.Fate.{Fate}
use Rattle.body_edit.specs.declared.fate.Fate.TheVariants.{Stays, Empties, Goes}
use Rattle.flow_cfg.specs.Walks.{successors_of}
use Rattle.walk_marks.specs.Walks.{is_on}
use Rattle.body_graph.specs.Walks.{Walk, IsReached}
use Rattle.body_graph.specs.Walks as walk
use Rattle.body_graph.specs.Graph.{covering}
use Rattle.body_graph.proofs.Members.{get_inside}
use Rattle.body_graph.proofs.Links.{step_on, step_caught}
use Rattle.program_laws.proofs.ChangedLists.{and_left, and_both}
use Rattle.thin_laws.specs.Squeezing.{IsSkipped, Nop, Over}
use Rattle.thin_laws.specs.Squeezed.{SqueezesMarked}
use Rattle.thin_pass.specs.Wishing.{wish_at, goes, is_to_go, is_held}
use Rattle.thin_laws.specs.Tidy.{IsTidy}
use Rattle.thin_laws.proofs.Rules.{follows_at, target_there}
use Rattle.removal_bridge.proofs.WalkedForms.{same_onward, same_caught, form_there}
use Rattle.squeeze.specs.Skipping.{passes, wish_for, AreSkips}
use Rattle.bodies_kept.specs.Right.{fates_by, PassesOn, On, Next, StillCatches, AreRight}
use Rattle.bodies_kept.proofs.Chosen.{Chosen, long, chosen_at, lost_by}
use Rattle.bodies_kept.proofs.Tidying.{tidy}
use Rattle.bodies_kept.proofs.Inside.{Step, Falls, Jumps, Throws, Handles, get_contains, of_handler, of_rest, handles_there, covers_it, step_of, walk_more, last_step, falls_on, jumps_on, throws_on, handler_begins, some_position, reached_inside}

-- ---- forms that pass

pass_on : (n : ℕ) (i : Insn) → passes n i ≡ true → PassesOn n i
pass_on n insn.Nop e = On insn.Nop refl refl
pass_on n (insn.Goto t) e = let s : t ≡ suc n = (let d = eqb-true t (n + 1) e in omega (arith, d)) in subst (λ (k : ℕ). PassesOn n (insn.Goto k)) (sym s) Next
pass_on n i e = absurd (true≢false (sym e))

no_result : (n : ℕ) (i : Insn) → has_result i ≡ true → passes n i ≡ false
no_result n insn.Nop e = absurd (true≢false (sym e))
no_result n (insn.Goto t) e = absurd (true≢false (sym e))
no_result n i e = refl

no_throw : (n : ℕ) (i : Insn) → throws i ≡ true → passes n i ≡ false
no_throw n insn.Nop e = absurd (true≢false (sym e))
no_throw n (insn.Goto t) e = absurd (true≢false (sym e))
no_throw n i e = refl

not_to_go : (r : Bool) (n : ℕ) (i : Insn) → goes (wish_for r n i) ≡ false → r ≡ true
not_to_go true n i e = refl
not_to_go false n i e = absurd (true≢false e)

-- what is reached and doesn't pass is to stay
stays_for : (r : Bool) (n : ℕ) (i : Insn) → r ≡ true → passes n i ≡ false → wish_for r n i ≡ Stays
stays_for r n i e d = ap (λ (x : Bool). if not x || passes n i then Goes else Stays) e ∙ ap (λ (x : Bool). if x then Goes else Stays) d

passes_if : (r : Bool) (n : ℕ) (i : Insn) → r ≡ true → (wish_for r n i ≡ Stays → ⊥) → passes n i ≡ true
passes_if r n i e w = by (passes n i) refl
  where
    by : (b : Bool) → passes n i ≡ b → passes n i ≡ true
    by true d = d
    by false d = absurd (w (stays_for r n i e d))

next_is : (n k : ℕ) → suc k ≡ suc n → k ≡ n
next_is n k e = omega (arith, e)

module _ (p : Program) (b : Body) (fits : body_fits p b ≡ true) (ws : List Fate) (s : AreSkips b ws) (no_entry : (to : ℕ) → slice_get b.insns 0 ≡ Some (insn.MoveException to) → ⊥) where
  abbrev pub marks : ℕ → Bool
  marks n = nat_lt n (length b.insns) && is_on s.marks n

  to_mark : (n : ℕ) → IsReached b n → marks n ≡ true
  to_mark n w = let l = reached_inside p b fits n w in and_both (nat_lt n (length b.insns)) (is_on s.marks n) (lt-ltb n (length b.insns) l) ((s.reached n l).1 w)

  inside_mark : (n : ℕ) → marks n ≡ true → n < length b.insns
  inside_mark n e = ltb-true n (length b.insns) (and_left (nat_lt n (length b.insns)) (is_on s.marks n) e)

  on_mark : (n : ℕ) → marks n ≡ true → is_on s.marks n ≡ true
  on_mark n e = and_right (nat_lt n (length b.insns)) (is_on s.marks n) e

  from_mark : (n : ℕ) → marks n ≡ true → IsReached b n
  from_mark n e = (s.reached n (inside_mark n e)).0 (on_mark n e)

  step_mark : (n m : ℕ) → marks n ≡ true → Contains (successors_of b n) m → marks m ≡ true
  step_mark n m e c = to_mark m (walk_more (successors_of b) 0 n m (from_mark n e) c)

  wish_is : (n : ℕ) (i : Insn) → slice_get b.insns n ≡ Some i → wish_at ws n ≡ wish_for (is_on s.marks n) n i
  wish_is n i e = s.are.each n i e

  skipping : (n : ℕ) (i : Insn) → marks n ≡ true → slice_get b.insns n ≡ Some i → (wish_at ws n ≡ Stays → ⊥) → passes n i ≡ true
  skipping n i m e w = passes_if (is_on s.marks n) n i (on_mark n m) (λ h. w (wish_is n i e ∙ h))

  left : (n : ℕ) (i : Insn) → slice_get b.insns n ≡ Some i → is_to_go ws n ≡ false → marks n ≡ true
  left n i e w = and_both (nat_lt n (length b.insns)) (is_on s.marks n) (lt-ltb n (length b.insns) (get_inside b.insns n i e)) (not_to_go (is_on s.marks n) n i (sym (ap goes (wish_is n i e)) ∙ w))

  -- a result is taken where it is given
  giver : (n to : ℕ) (t : Slot) → slice_get b.insns (suc n) ≡ Some (insn.MoveResult t to) → IsReached b (suc n) → IsReached b n
  giver n to t e w = by (last_step (successors_of b) 0 (suc n) w)
    where
      step : (k : ℕ) → IsReached b k → Step b k (suc n) → IsReached b n
      step k v (Falls j g h d) = subst (λ (x : ℕ). IsReached b x) (next_is n k d) v
      step k v (Jumps j g h) = let x = target_there p b fits k (suc n) j g h in absurd (true≢false (sym x.1.1 ∙ ap may_enter (sym x.1.0 ∙ e)))
      step k v (Throws j r g h d i) = absurd (true≢false (sym (handler_begins p b fits k (suc n) r d i) ∙ ap may_begin e))

      by : (0 ≡ suc n) ⊎ ((k : ℕ) × (Walk (successors_of b) 0 k × Contains (successors_of b k) (suc n))) → IsReached b n
      by (inl d) = let f : ⊥ = omega (arith, d) in absurd f
      by (inr x) = step x.0 x.1.0 (step_of b x.0 (suc n) x.1.1)

  results : (n to : ℕ) (t : Slot) (i : Insn) → marks (suc n) ≡ true → slice_get b.insns (suc n) ≡ Some (insn.MoveResult t to) → slice_get b.insns n ≡ Some i → wish_at ws n ≡ Stays
  results n to t i m e d = wish_is n i d ∙ stays_for (is_on s.marks n) n i (on_mark n (to_mark n (giver n to t e (from_mark (suc n) m)))) (no_result n i (follows_at p b fits n i (insn.MoveResult t to) d e))

  -- what is caught was thrown
  caught : (n to : ℕ) → marks n ≡ true → slice_get b.insns n ≡ Some (insn.MoveException to) → wish_at ws n ≡ Stays → StillCatches marks ws b n
  caught n to m e w = by (last_step (successors_of b) 0 n (from_mark n m))
    where
      step : (k : ℕ) → IsReached b k → Step b k n → StillCatches marks ws b n
      step k v (Falls j g h d) = absurd (true≢false (sym (follows_at p b fits k j (insn.MoveException to) g (ap (slice_get b.insns) d ∙ e)) ∙ ap not h))
      step k v (Jumps j g h) = let x = target_there p b fits k n j g h in absurd (true≢false (sym x.1.1 ∙ ap may_enter (sym x.1.0 ∙ e)))
      step k v (Throws j r g h d i) =
          let c = covers_it b.regions k r d in
          let mk = to_mark k v in
          record {
            region = r;
            has_region = get_contains b.regions (covering b.regions k) r d;
            handles = handles_there r n i;
            covered = k;
            first = leb-true r.first k (and_left (nat_le r.first k) (nat_lt k r.end) c);
            end = ltb-true k r.end (and_right (nat_le r.first k) (nat_lt k r.end) c);
            insn = j;
            has_insn = g;
            stays = ap goes (wish_is k j g ∙ stays_for (is_on s.marks k) k j (on_mark k mk) (no_throw k j h));
            marked = λ x y. step_mark k x.position mk (throws_on b k x.position j r g h d (of_handler r x y));
            rest = λ x y. step_mark k x mk (throws_on b k x j r g h d (of_rest r x y));
          }

      by : (0 ≡ n) ⊎ ((k : ℕ) × (Walk (successors_of b) 0 k × Contains (successors_of b k) n)) → StillCatches marks ws b n
      by (inl d) = absurd (no_entry to (ap (slice_get b.insns) d ∙ e))
      by (inr x) = step x.0 x.1.0 (step_of b x.0 n x.1.1)

  right : AreRight marks ws b
  right = record {
    entry = to_mark 0 (walk.Stays 0);
    next = λ n i m e g. step_mark n (suc n) m (falls_on b n i e g);
    targets = λ n t i m e c. step_mark n t m (jumps_on b n t i e c);
    left = left;
    loses = λ n i m e w. pass_on n i (skipping n i m e w);
    results = results;
    caught = caught;
  }

  pub skips_tidy : IsTidy marks (fates_by ws b) b
  skips_tidy = tidy p marks ws b fits right

  -- ---- by name

  from_named : (o : Option Insn) (x : Form) → option_map (form_of p) o ≡ Some x → (i : Insn) × ((o ≡ Some i) × (form_of p i ≡ x))
  from_named None x e = absurd (cc)
  from_named (Some i) x e = (i, (refl, (let y : ◌≡◌ {A = Option Form} (Some (form_of p i)) (Some x) = e in cc)))

  insn_for : (n : ℕ) (x : Form) → form_at (body_of p b) n ≡ Some x → (i : Insn) × ((slice_get b.insns n ≡ Some i) × (form_of p i ≡ x))
  insn_for n x e = from_named (slice_get b.insns n) x (sym (form_there p b n) ∙ e)

  onward_mark : (n m : ℕ) (i : Insn) → marks n ≡ true → slice_get b.insns n ≡ Some i → Contains (named.onward (form_of p i) n) m → marks m ≡ true
  onward_mark n m i mk e c = step_mark n m mk (step_on b n m i e (subst (λ (l : List ℕ). Contains l m) (same_onward p i n) c))

  caught_mark : (n m : ℕ) (i : Insn) → marks n ≡ true → slice_get b.insns n ≡ Some i → Contains (named.caught (body_of p b) (form_of p i) n) m → marks m ≡ true
  caught_mark n m i mk e c = step_mark n m mk (step_caught b n m i e (subst (λ (l : List ℕ). Contains l m) (same_caught p b i n) c))

  skip_named : (n : ℕ) (i : Insn) → passes n i ≡ true → IsSkipped (fates_by ws b) n (form_of p i)
  skip_named n insn.Nop e = Nop
  skip_named n (insn.Goto t) e = let same : t ≡ n + 1 = eqb-true t (n + 1) e in Over t (omega (arith, same)) (ap (place (fates_by ws b)) same)
  skip_named n i e = absurd (true≢false (sym e))

  skipped : (n : ℕ) (x : Form) (f : Meant) → marks n ≡ true → form_at (body_of p b) n ≡ Some x → slice_get (fates_by ws b) n ≡ Some f → stays f ≡ false → IsSkipped (fates_by ws b) n x
  skipped n x f m e h st =
      let i = insn_for n x e in
      let a = chosen_at b.insns ws n i.0 f i.1.0 h in
      subst (λ (y : Form). IsSkipped (fates_by ws b) n y) i.1.1 (skip_named n i.0 (skipping n i.0 m i.1.0 (lost_by (wish_at ws n) (is_held b.insns ws a.start n) i.0 (sym (ap stays a.is_it) ∙ st))))

  pub skips_marked : SqueezesMarked marks (fates_by ws b) (body_of p b)
  skips_marked = record {
    long = long b.insns ws ∙ sym (length-map b.insns (form_of p));
    within = λ n m. subst (λ (k : ℕ). n < k) (sym (length-map b.insns (form_of p))) (inside_mark n m);
    entry = to_mark 0 (walk.Stays 0);
    onward = λ n m f mk e c. let i = insn_for n f e in onward_mark n m i.0 mk i.1.0 (subst (λ (y : Form). Contains (named.onward y n) m) (sym i.1.1) c);
    caught = λ n m f mk e c. let i = insn_for n f e in caught_mark n m i.0 mk i.1.0 (subst (λ (y : Form). Contains (named.caught (body_of p b) y n) m) (sym i.1.1) c);
    left = skips_tidy.left;
    skipped = skipped;
  }
