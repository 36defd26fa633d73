-- A thinned body keeps the rules of bodies.
use Rattle.std.proofs.Common.{◌≡◌, ◌⊎◌, inl, inr, ℕ, zero, suc, ◌+◌, ◌-◌, ◌<◌, ◌≤◌, Bool, true, false, true≢false, List, [], ◌∷◌, length, refl, sym, ap, ◌∙◌, subst, arith, lt-ltb, ltb-true}
use Rattle.std.specs.Prelude.{◌&&◌, not, Option, Some, None, slice_get, Contains, nat_lt, nat_le, map}
use Rattle.std.specs.List.{list_all, enumerate_from}
use Rattle.std.specs.Option.{option_map}
use Rattle.lemmas.proofs.Bools.{and_right, clash}
use Rattle.lemmas.proofs.Lists.{all_in, all_of, get_there, got_short}
use Rattle.lemmas.proofs.Options.{some_same}
use Rattle.insn_set.specs.Flow.{goes_on, targets_of}
use Rattle.insn_set.specs.Spelling.{is_encodable}
use Rattle.insn_set.specs.declared.form.Insn.{Insn}
use Rattle.insn_set.specs.declared.form.Insn.TheVariants as insn
use Rattle.insn_set.specs.declared.ops.Slot.{Slot}
use Rattle.program_model.specs.Neighbours.{neighbours}
use Rattle.program_model.specs.OperandRules.{registers_fit, numbers_fit}
use Rattle.program_model.specs.RegionRules.{may_begin, handler_fits, rest_fits, catches, region_fits, regions_fit}
use Rattle.program_model.specs.BodyRules.{ends, has_result, may_follow, follows, may_enter, targets_fit, leaves, handles_at, is_caught, insn_fits, body_fits}
use Rattle.program_model.specs.Texts.{has_type}
use Rattle.program_model.specs.declared.body.Handler.{Handler}
use Rattle.program_model.specs.declared.body.Region.{Region}
use Rattle.program_model.specs.declared.body.Body.{Body}
use Rattle.program_model.specs.declared.program.Program.{Program}
use Rattle.pass_defs.specs.Thinned.{Fate, Stays, Empties, Goes, place, insn_retargeted, insns_left, handler_moved, region_moved, rest_before, body_thinned}
use Rattle.program_laws.proofs.ChangedLists.{and_left, and_both, all_map}
use Rattle.thin_laws.proofs.Places.{IsLeft, place_next}
use Rattle.thin_laws.specs.Tidy.{Catches, IsTidy}
use Rattle.thin_laws.proofs.Kept.{encodable, registers, numbers, gives, enters, begins, aims, enter_begin}
use Rattle.thin_laws.proofs.PlacesLeft.{all_with, all_numbered, all_beside, left_insn, insn_left, From, come_from, place_same, place_rises}
use Rattle.thin_laws.proofs.Regions.{has_room, handlers_begin, rest_begins, kept_all, kept_any, handles_there, each_region_fits, regions_left}
use Rattle.thin_laws.proofs.Rules.{first_begins, all_regions_fit, operands_at, targets_at, follows_at, rest_of, may_begin_at}
use Rattle.thin_laws.proofs.Lands.{left_at, Lands, lands, target_lands, is_marked, Falls, falls}

not_behind : (a : ℕ) → suc (a - 1) < a → 0 < a → ⊥
not_behind a l m = omega arith

before_end : (a : ℕ) → 0 < a → a - 1 < a
before_end a l = omega arith

not_zero : (j : ℕ) → 0 ≡ suc j → ⊥
not_zero j e = omega (arith, e)

less : (n a : ℕ) → suc n < a → n < a
less n a l = omega arith

same_suc : (a j : ℕ) → suc a ≡ suc j → a ≡ j
same_suc a j e = omega (arith, e)

too_low : (a b : ℕ) → a ≡ suc b → a ≤ b → ⊥
too_low a b e l = omega (arith, e, l)

too_high : (a b : ℕ) → b ≡ a → suc b ≤ a → ⊥
too_high a b e l = omega (arith, e, l)

three : (n m : ℕ) → (n ≤ m) ⊎ ((n ≡ suc m) ⊎ (suc (suc m) ≤ n))
three zero m = inl (omega arith)
three (suc zero) zero = inr (inl refl)
three (suc (suc n)) zero = inr (inr (omega arith))
three (suc n) (suc m) = by (three n m)
  where
    by : (n ≤ m) ⊎ ((n ≡ suc m) ⊎ (suc (suc m) ≤ n)) → (suc n ≤ suc m) ⊎ ((suc n ≡ suc (suc m)) ⊎ (suc (suc (suc m)) ≤ suc n))
    by (inl l) = inl (omega (arith, l))
    by (inr (inl e)) = inr (inl (ap suc e))
    by (inr (inr l)) = inr (inr (omega (arith, l)))

between : (a b c : ℕ) → a ≤ b → suc b ≤ c → a < c
between a b c l m = omega arith

upto : (a b : ℕ) → a < b → suc a ≤ b
upto a b l = omega arith

is_left : (f : Fate) → (f ≡ Goes → ⊥) → IsLeft (Some f)
is_left Stays n = tt
is_left Empties n = tt
is_left Goes n = n refl

none_plus : (n : ℕ) → n ≡ 0 + n
none_plus n = omega arith

entry_place : (fs : List Fate) → place fs 0 ≡ 0
entry_place [] = refl
entry_place (f ∷ fs) = refl

module _ (p : Program) (marks : ℕ → Bool) (fs : List Fate) (b : Body) (fits : body_fits p b ≡ true) (tidy : IsTidy marks fs b) where
  abbrev at : ℕ → ℕ
  at = place fs

  abbrev new : List Insn
  new = insns_left at fs b.insns

  -- what stands where something lands
  stands : (n : ℕ) (l : Lands p marks fs b fits tidy n) → slice_get new (at n) ≡ Some (left_insn at l.fate l.insn)
  stands n l = ap (slice_get new) (sym l.same) ∙ insn_left at fs b.insns l.to l.fate l.insn l.has_fate l.has_insn l.is_left

  enter_left : (f : Fate) (i : Insn) → IsLeft (Some f) → may_enter (Some i) ≡ true → may_enter (Some (left_insn at f i)) ≡ true
  enter_left Stays i l e = enters at i ∙ e
  enter_left Empties i l e = refl
  enter_left Goes i l e = absurd l

  begin_left : (f : Fate) (i : Insn) → IsLeft (Some f) → may_begin (Some i) ≡ true → may_begin (Some (left_insn at f i)) ≡ true
  begin_left Stays i l e = begins at i ∙ e
  begin_left Empties i l e = refl
  begin_left Goes i l e = absurd l

  -- ---- the first and the last

  -- where a handler began at a marked position, one may begin at its place
  begins_at : (n : ℕ) → marks n ≡ true → may_begin (slice_get b.insns n) ≡ true → may_begin (slice_get new (at n)) ≡ true
  begins_at n m h = by_form (slice_get b.insns n) refl h
    where
      by : (i : Insn) → slice_get b.insns n ≡ Some i → may_begin (Some i) ≡ true → (l : Lands p marks fs b fits tidy n) → (l.to ≡ n) ⊎ (may_enter (Some l.insn) ≡ true) → may_begin (Some l.insn) ≡ true
      by i e h l (inl s) = subst (λ z. may_begin (Some z) ≡ true) (some_same i l.insn (sym e ∙ ap (slice_get b.insns) (sym s) ∙ l.has_insn)) h
      by i e h l (inr s) = enter_begin (Some l.insn) s

      by_form : (o : Option Insn) → slice_get b.insns n ≡ o → may_begin o ≡ true → may_begin (slice_get new (at n)) ≡ true
      by_form None e h = clash true refl (sym h)
      by_form (Some i) e h = let l = lands p marks fs b fits tidy n i m e in ap may_begin (stands n l) ∙ begin_left l.fate l.insn l.is_left (by i e h l l.enters)

  first : may_begin (slice_get new 0) ≡ true
  first = ap (λ k. may_begin (slice_get new k)) (sym (entry_place fs)) ∙ begins_at 0 tidy.entry (first_begins p b fits)

  -- behind what goes on something is left
  behind : (j : ℕ) (y : Insn) → slice_get new j ≡ Some y → goes_on y ≡ true → suc j < length new
  behind j y e g =
      let r = come_from at fs b.insns j y e in
      let w = falls p marks fs b fits tidy r.position r.fate r.insn r.has_fate r.is_left r.has_insn (ap goes_on (sym r.same) ∙ g) in
      subst (λ k. k < length new) (w.behind ∙ ap suc r.there)
      (got_short new (at w.lands.to) (left_insn at w.lands.fate w.lands.insn) (insn_left at fs b.insns w.lands.to w.lands.fate w.lands.insn w.lands.has_fate w.lands.has_insn w.lands.is_left))

  last : slice_get new 0 ≡ None → ⊥
  last e = absurd (true≢false (sym first ∙ ap may_begin e))

  last_ends : ends (slice_get new (length new - 1)) ≡ true
  last_ends = some_left (slice_get new 0) refl
    where
      stops : (y : Insn) → slice_get new (length new - 1) ≡ Some y → 0 < length new → (g : Bool) → goes_on y ≡ g → not g ≡ true
      stops y e l false h = refl
      stops y e l true h = absurd (not_behind (length new) (behind (length new - 1) y e h) l)

      some_left : (o : Option Insn) → slice_get new 0 ≡ o → ends (slice_get new (length new - 1)) ≡ true
      some_left None e = absurd (last e)
      some_left (Some y) e =
          let l = got_short new 0 y e in
          let z = get_there new (length new - 1) (before_end (length new) l) in
          ap ends z.1 ∙ stops z.0 z.1 l (goes_on z.0) refl

  -- ---- one behind another

  -- nothing goes on to an instruction that may follow only what doesn't, or what gives a result
  follows_left : (j : ℕ) (x y : Insn) → slice_get new j ≡ Some x → slice_get new (suc j) ≡ Some y → may_follow x y ≡ true
  follows_left j x y e d = by (come_from at fs b.insns j x e) (come_from at fs b.insns (suc j) y d)
    where
      result : (n : ℕ) (i : Insn) → slice_get fs n ≡ Some Stays → slice_get b.insns n ≡ Some i → at n ≡ j → has_result i ≡ true → has_result x ≡ true
      result n i h k s g = ap has_result (some_same x (insn_retargeted at i) (sym e ∙ ap (slice_get new) (sym s) ∙ insn_left at fs b.insns n Stays i h k tt)) ∙ gives at i ∙ g

      taken : (m : ℕ) (slot : Slot) (to : ℕ) → slice_get fs m ≡ Some Stays → slice_get b.insns m ≡ Some (insn.MoveResult slot to) → at m ≡ suc j → has_result x ≡ true
      taken zero slot to h k s = absurd (not_zero j (sym (entry_place fs) ∙ s))
      taken (suc n) slot to h k s =
          let giver = tidy.results n to slot h k in
          let i = get_there b.insns n (less n (length b.insns) (got_short b.insns (suc n) (insn.MoveResult slot to) k)) in
          result n i.0 giver i.1 (same_suc (at n) j (sym (place_next fs n (subst IsLeft (sym giver) tt)) ∙ s)) (follows_at p b fits n i.0 (insn.MoveResult slot to) i.1 k)

      never : (m to : ℕ) → slice_get fs m ≡ Some Stays → slice_get b.insns m ≡ Some (insn.MoveException to) → at m ≡ suc j → From at fs b.insns j x → goes_on x ≡ true → ⊥
      never m to h k s r g = by w.enters
        where
          w : Falls p marks fs b fits tidy r.position r.insn
          w = falls p marks fs b fits tidy r.position r.fate r.insn r.has_fate r.is_left r.has_insn (ap goes_on (sym r.same) ∙ g)

          same : w.lands.to ≡ m
          same = place_same fs w.lands.to m (left_at p marks fs b fits tidy w.lands.to w.lands.fate w.lands.has_fate w.lands.is_left) (subst IsLeft (sym h) tt) (w.behind ∙ ap suc r.there ∙ sym s)

          by : ((w.lands.to ≡ suc r.position) × (goes_on r.insn ≡ true)) ⊎ (may_enter (Some w.lands.insn) ≡ true) → ⊥
          by (inl d) = absurd (true≢false (sym (follows_at p b fits r.position r.insn (insn.MoveException to) r.has_insn (ap (slice_get b.insns) (sym d.0 ∙ same) ∙ k)) ∙ ap not d.1))
          by (inr d) = absurd (true≢false (sym d ∙ ap may_enter (sym w.lands.has_insn ∙ ap (slice_get b.insns) same ∙ k)))

      stops : (m to : ℕ) → slice_get fs m ≡ Some Stays → slice_get b.insns m ≡ Some (insn.MoveException to) → at m ≡ suc j → From at fs b.insns j x → (g : Bool) → goes_on x ≡ g → not g ≡ true
      stops m to h k s r false g = refl
      stops m to h k s r true g = absurd (never m to h k s r g)

      by_form : From at fs b.insns j x → (m : ℕ) (i : Insn) → slice_get fs m ≡ Some Stays → slice_get b.insns m ≡ Some i → at m ≡ suc j → may_follow x (insn_retargeted at i) ≡ true
      by_form r m (insn.MoveResult slot to) h k s = taken m slot to h k s
      by_form r m (insn.MoveException to) h k s = stops m to h k s r (goes_on x) refl
      by_form r m i h k s = refl

      by_fate : From at fs b.insns j x → (m : ℕ) (f : Fate) (i : Insn) → slice_get fs m ≡ Some f → IsLeft (Some f) → slice_get b.insns m ≡ Some i → at m ≡ suc j → may_follow x (left_insn at f i) ≡ true
      by_fate r m Stays i h l k s = by_form r m i h k s
      by_fate r m Empties i h l k s = refl
      by_fate r m Goes i h l k s = absurd l

      by : From at fs b.insns j x → From at fs b.insns (suc j) y → may_follow x y ≡ true
      by r q = subst (λ z. may_follow x z ≡ true) (sym q.same) (by_fate r q.position q.fate q.insn q.has_fate q.is_left q.has_insn q.there)

  -- ---- a region that still covers something

  -- what is marked comes to stand before the end
  lands_before : (n : ℕ) → marks n ≡ true → may_begin (slice_get b.insns n) ≡ true → nat_lt (at n) (length new) ≡ true
  lands_before n m h = by_form (slice_get b.insns n) refl h
    where
      by_form : (o : Option Insn) → slice_get b.insns n ≡ o → may_begin o ≡ true → nat_lt (at n) (length new) ≡ true
      by_form None e h = clash true refl (sym h)
      by_form (Some i) e h = let l = lands p marks fs b fits tidy n i m e in lt-ltb (at n) (length new) (got_short new (at n) (left_insn at l.fate l.insn) (stands n l))

  covers_still : (n : ℕ) (r : Catches marks fs b n) → at r.region.first < at r.region.end
  covers_still n r = between (at r.region.first) (at r.covered) (at r.region.end) (place_rises fs r.region.first r.covered r.first)
      (subst (λ k. k ≤ at r.region.end) (place_next fs r.covered (subst IsLeft (sym r.has_fate) (is_left r.fate r.is_left))) (place_rises fs (suc r.covered) r.region.end (upto r.covered r.region.end r.end)))

  room : (n : ℕ) (r : Catches marks fs b n) → has_room p b.insns fs r.region ≡ true
  room n r = and_both (nat_lt (at r.region.first) (at r.region.end)) (list_all (λ (h : Handler). nat_lt h.position (length new)) (map (handler_moved at) r.region.handlers) && rest_before (length new) (option_map at r.region.rest))
      (lt-ltb (at r.region.first) (at r.region.end) (covers_still n r))
      (and_both (list_all (λ (h : Handler). nat_lt h.position (length new)) (map (handler_moved at) r.region.handlers)) (rest_before (length new) (option_map at r.region.rest))
      (all_map (λ (h : Handler). nat_lt h.position (length new)) (handler_moved at) r.region.handlers
      ∙ all_of (λ (h : Handler). nat_lt (at h.position) (length new)) r.region.handlers (λ h i. lands_before h.position (r.marked h i) (may_begin_at p b fits r.region r.has_region h i)))
      (rest_lands r.region.rest refl (rest_of p b fits r.region r.has_region)))
    where
      rest_lands : (o : Option ℕ) → r.region.rest ≡ o → rest_fits b.insns o ≡ true → rest_before (length new) (option_map at o) ≡ true
      rest_lands None d f = refl
      rest_lands (Some k) d f = lands_before k (r.rest k d) f

  -- ---- each instruction

  abbrev thin : Body
  thin = body_thinned fs b

  stays_fits : (n : ℕ) (i : Insn) → slice_get fs n ≡ Some Stays → slice_get b.insns n ≡ Some i → insn_fits p thin (at n, insn_retargeted at i) ≡ true
  unfolding insn_fits
  stays_fits n i h e =
      let x = insn_retargeted at i in
      and_both (is_encodable x && (registers_fit x b.registers && numbers_fit x p)) (targets_fit new x && (leaves (at n) x && is_caught thin.regions (at n) x))
      (ap (λ z. z && (registers_fit x b.registers && numbers_fit x p)) (encodable at i) ∙ ap (λ z. is_encodable i && (z && numbers_fit x p)) (registers at i b.registers)
      ∙ ap (λ z. is_encodable i && (registers_fit i b.registers && z)) (numbers at i p) ∙ operands_at p b fits n i e)
      (and_both (targets_fit new x) (leaves (at n) x && is_caught thin.regions (at n) x)
      (ap (list_all (λ t. may_enter (slice_get new t))) (aims at i) ∙ all_map (λ t. may_enter (slice_get new t)) at (targets_of i)
      ∙ all_with (λ t. may_enter (slice_get b.insns t)) (λ t. may_enter (slice_get new (at t))) (targets_of i) aimed (targets_at p b fits n i e))
      (and_both (leaves (at n) x) (is_caught thin.regions (at n) x) (tidy.leaves n i h e) (caught_left i h e)))
    where
      caught_left : (i : Insn) → slice_get fs n ≡ Some Stays → slice_get b.insns n ≡ Some i → is_caught thin.regions (at n) (insn_retargeted at i) ≡ true
      caught_left (insn.MoveException to) h e = let r = tidy.caught n to h e in kept_any p b.insns fs (handles_at (at n)) b.regions r.region r.has_region (room n r) (handles_there p b.insns fs n r.region r.handles)
      caught_left i h e = refl

      aimed : (t : ℕ) → Contains (targets_of i) t → may_enter (slice_get b.insns t) ≡ true → may_enter (slice_get new (at t)) ≡ true
      aimed t c v = let l = target_lands p marks fs b fits tidy n t i (is_marked p marks fs b fits tidy n Stays h tt) e c in
          ap may_enter (stands t l.0) ∙ enter_left l.0.fate l.0.insn l.0.is_left l.1

  nop_fits : (j : ℕ) → insn_fits p thin (j, insn.Nop) ≡ true
  unfolding insn_fits registers_fit numbers_fit
  nop_fits j = refl

  each_left : (j : ℕ) (y : Insn) → slice_get new j ≡ Some y → insn_fits p thin (j, y) ≡ true
  each_left j y e = let r = come_from at fs b.insns j y e in
      subst (λ z. insn_fits p thin (j, z) ≡ true) (sym r.same) (subst (λ k. insn_fits p thin (k, left_insn at r.fate r.insn) ≡ true) r.there (by r.position r.fate r.insn r.has_fate r.is_left r.has_insn))
    where
      by : (n : ℕ) (f : Fate) (i : Insn) → slice_get fs n ≡ Some f → IsLeft (Some f) → slice_get b.insns n ≡ Some i → insn_fits p thin (at n, left_insn at f i) ≡ true
      by n Stays i h l k = stays_fits n i h k
      by n Empties i h l k = nop_fits (at n)
      by n Goes i h l k = absurd l

  -- ---- regions

  -- what stands at a place to which a handler has come is no result of a call that stands before it
  no_result : (n m to : ℕ) (slot : Slot) → may_begin (slice_get b.insns n) ≡ true → slice_get fs m ≡ Some Stays → slice_get b.insns m ≡ Some (insn.MoveResult slot to) → at m ≡ at n → ⊥
  no_result n zero to slot e h k s = absurd (true≢false (sym (first_begins p b fits) ∙ ap may_begin k))
  no_result n (suc m) to slot e h k s = by (three n m)
    where
      giver : slice_get fs m ≡ Some Stays
      giver = tidy.results m to slot h k

      by : (n ≤ m) ⊎ ((n ≡ suc m) ⊎ (suc (suc m) ≤ n)) → ⊥
      by (inl l) = too_low (at n) (at m) (sym s ∙ place_next fs m (subst IsLeft (sym giver) tt)) (place_rises fs n m l)
      by (inr (inl d)) = absurd (true≢false (sym e ∙ ap may_begin (ap (slice_get b.insns) d ∙ k)))
      by (inr (inr l)) = too_high (at n) (at (suc m)) s (subst (λ z. z ≤ at n) (place_next fs (suc m) (subst IsLeft (sym h) tt)) (place_rises fs (suc (suc m)) n l))

  begins_within : (n : ℕ) → may_begin (slice_get b.insns n) ≡ true → at n < length new → may_begin (slice_get new (at n)) ≡ true
  begins_within n e l =
      let y = get_there new (at n) l in
      let r = come_from at fs b.insns (at n) y.0 y.1 in
      ap may_begin y.1 ∙ ap (λ z. may_begin (Some z)) r.same ∙ by r.position r.fate r.insn r.has_fate r.is_left r.has_insn r.there
    where
      by_form : (m : ℕ) (i : Insn) → slice_get fs m ≡ Some Stays → slice_get b.insns m ≡ Some i → at m ≡ at n → may_begin (Some i) ≡ true
      by_form m (insn.MoveResult slot to) h k s = absurd (no_result n m to slot e h k s)
      by_form m i h k s = refl

      by : (m : ℕ) (f : Fate) (i : Insn) → slice_get fs m ≡ Some f → IsLeft (Some f) → slice_get b.insns m ≡ Some i → at m ≡ at n → may_begin (Some (left_insn at f i)) ≡ true
      by m Stays i h l k s = begins at i ∙ by_form m i h k s
      by m Empties i h l k s = refl
      by m Goes i h l k s = absurd l

  tests : (r : Region) → has_room p b.insns fs r ≡ true → (list_all (λ (h : Handler). nat_lt h.position (length new)) (map (handler_moved at) r.handlers) && rest_before (length new) (option_map at r.rest)) ≡ true
  tests r e = and_right (nat_lt (at r.first) (at r.end)) (list_all (λ (h : Handler). nat_lt h.position (length new)) (map (handler_moved at) r.handlers) && rest_before (length new) (option_map at r.rest)) e

  handlers_inside : (r : Region) → has_room p b.insns fs r ≡ true → list_all (λ (h : Handler). nat_lt (at h.position) (length new)) r.handlers ≡ true
  handlers_inside r e = sym (all_map (λ (h : Handler). nat_lt h.position (length new)) (handler_moved at) r.handlers)
      ∙ and_left (list_all (λ (h : Handler). nat_lt h.position (length new)) (map (handler_moved at) r.handlers)) (rest_before (length new) (option_map at r.rest)) (tests r e)

  rest_inside : (r : Region) → has_room p b.insns fs r ≡ true → rest_before (length new) (option_map at r.rest) ≡ true
  rest_inside r e = and_right (list_all (λ (h : Handler). nat_lt h.position (length new)) (map (handler_moved at) r.handlers)) (rest_before (length new) (option_map at r.rest)) (tests r e)

  handlers_there : (r : Region) → Contains b.regions r → has_room p b.insns fs r ≡ true → handlers_begin new (region_moved at r) ≡ true
  handlers_there r c e = all_map (λ (h : Handler). may_begin (slice_get new h.position)) (handler_moved at) r.handlers
      ∙ all_of (λ (h : Handler). may_begin (slice_get new (at h.position))) r.handlers (λ h i. begins_within h.position (may_begin_at p b fits r c h i)
      (ltb-true (at h.position) (length new) (all_in (λ (h : Handler). nat_lt (at h.position) (length new)) r.handlers h i (handlers_inside r e))))

  rest_there : (r : Region) → Contains b.regions r → has_room p b.insns fs r ≡ true → rest_begins new (region_moved at r) ≡ true
  rest_there r c e = by r.rest (rest_of p b fits r c) (rest_inside r e)
    where
      by : (o : Option ℕ) → rest_fits b.insns o ≡ true → rest_before (length new) (option_map at o) ≡ true → rest_fits new (option_map at o) ≡ true
      by None f l = refl
      by (Some n) f l = begins_within n f (ltb-true (at n) (length new) l)

  -- ---- the body

  numbered : (j : ℕ) (y : Insn) → slice_get new j ≡ Some y → insn_fits p thin (0 + j, y) ≡ true
  numbered j y e = ap (λ k. insn_fits p thin (k, y)) (sym (none_plus j)) ∙ each_left j y e

  pub thinned_fits : body_fits p thin ≡ true
  unfolding body_fits
  thinned_fits =
      and_both (may_begin (slice_get new 0) && ends (slice_get new (length new - 1))) (list_all follows (neighbours new) && (list_all (insn_fits p thin) (enumerate_from 0 new) && regions_fit p new thin.regions))
      (and_both (may_begin (slice_get new 0)) (ends (slice_get new (length new - 1))) first last_ends)
      (and_both (list_all follows (neighbours new)) (list_all (insn_fits p thin) (enumerate_from 0 new) && regions_fit p new thin.regions) (all_beside follows new follows_left)
      (and_both (list_all (insn_fits p thin) (enumerate_from 0 new)) (regions_fit p new thin.regions) (all_numbered (insn_fits p thin) new 0 numbered)
      (regions_left p b.insns fs tidy.long b.regions (all_regions_fit p b fits)
      (kept_all p b.insns fs (handlers_begin new) b.regions handlers_there) (kept_all p b.insns fs (rest_begins new) b.regions rest_there))))
