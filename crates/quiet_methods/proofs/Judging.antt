-- What is known of a body by itself, from its positions.
use Rattle.std.proofs.Common.{◌≡◌, ◌⊎◌, inl, inr, ℕ, zero, suc, ◌+◌, ◌<◌, ◌≤◌, ◌&&◌, Bool, true, false, not, List, [], ◌∷◌, ◌++◌, length, get_or, cond, Option, Some, None, is_some, refl, sym, ap, ◌∙◌, subst, arith, rules, length-append}
use Rattle.std.proofs.Common.{Result, Ok, Err}
use Rattle.std.specs.Prelude.{IfOk, slice_get, Contains, ◌^◌}
use Rattle.std.specs.List.{list_all}
use Rattle.std.proofs.lemmas.Bool.{false≢true, cases_eq}
use Rattle.std.proofs.lemmas.List.Elements.{All-contains, Contains-append_left, Contains-push, Contains-push_cases, Contains-get_or}
use Rattle.std.proofs.lemmas.List.Sums.{AllPass-from_list_all}
use Rattle.std.proofs.lemmas.Option.{slice_get-get_or, slice_get_within}
use Rattle.insn_set.specs.declared.form.Insn.{Insn}
use Rattle.program_model.specs.declared.program.Program.{Program}
use Rattle.dom_frame.specs.declared.frames.Frame.{Frame}
use Rattle.quiet_methods.specs.declared.ranks.Node.{Node}
use Rattle.quiet_methods.specs.declared.forms.Demand.{Demand}
use Rattle.quiet_methods.specs.declared.forms.Demand.TheVariants.{Nothing, Call, Loud}
use Rattle.quiet_methods.specs.Settled.{rank_at, has_rank, IsSettled}
use Rattle.quiet_methods.specs.Bodies.{frame_in, demand_in, ways_in, node_of, nodes_upto, with_demand, demand_of, calls_upto, IsRanked, IsMetBy, IsCalmAt, IsLoudAt, IsCalledIn, IsCircling, IsLoudSelf, Circles, IsOwn}

nothing_below : (n : ℕ) → n < 0 → ⊥
nothing_below n lt = omega (arith, lt)

none_called : (m : ℕ) → Contains [] m → ⊥
none_called m c = omega (arith, c.1)

abbrev is_loud : Demand → Bool
is_loud Loud = true
is_loud d = false

abbrev is_call : Demand → Bool
is_call (Call m) = true
is_call d = false

-- ---- demands, one after another

-- what is collected with one demand more
record Collected (o : Option (List ℕ)) (d : Demand) (calls : List ℕ) : Type 0 where
  before : List ℕ
  is : o ≡ Some before
  how : ((d ≡ Nothing) × (calls ≡ before)) ⊎ ((m : ℕ) × (d ≡ Call m) × (calls ≡ before ++ m ∷ []))

same_list : (a b : List ℕ) → Some a ≡ Some b → b ≡ a
same_list a b h = search rules

collected : (o : Option (List ℕ)) (d : Demand) (calls : List ℕ) → with_demand o d ≡ Some calls → Collected o d calls
collected (Some b) Nothing calls h = record { before = b; is = refl; how = inl (refl, same_list b calls h) }
collected (Some b) (Call m) calls h = record { before = b; is = refl; how = inr (m, refl, same_list (b ++ m ∷ []) calls h) }
collected (Some b) Loud calls h = absurd (false≢true (ap is_some h))
collected None d calls h = absurd (false≢true (ap is_some h))

met_more : (calls more : List ℕ) (d : Demand) → IsMetBy calls d → IsMetBy (calls ++ more) d
met_more calls more Nothing h = h
met_more calls more (Call m) h = Contains-append_left calls more m h
met_more calls more Loud h = h

met_after : (o : Option (List ℕ)) (d e : Demand) (calls : List ℕ) (c : Collected o d calls) → IsMetBy c.before e → IsMetBy calls e
met_after o d e calls c h = elim c.how [
  | inl w ↦ subst (λ l. IsMetBy l e) (sym w.1) h
  | inr w ↦ subst (λ l. IsMetBy l e) (sym w.2) (met_more c.before (w.0 ∷ []) e h)
]

met_now : (o : Option (List ℕ)) (d : Demand) (calls : List ℕ) → Collected o d calls → IsMetBy calls d
met_now o d calls c = elim c.how [
  | inl w ↦ subst (IsMetBy calls) (sym w.0) tt
  | inr w ↦ subst (IsMetBy calls) (sym w.1) (subst (λ l. Contains l w.0) (sym w.2) (Contains-push c.before w.0))
]

pub met : (p : Program) (is : List Insn) (fs : List (Option Frame)) (k : ℕ) (calls : List ℕ) → calls_upto p is fs k ≡ Some calls → (n : ℕ) (i : Insn) → n < k → slice_get is n ≡ Some i
    → IsMetBy calls (demand_in p (frame_in fs n) i)
met p is fs zero calls h n i lt at = absurd (nothing_below n lt)
met p is fs (suc k) calls h n i lt at =
    let c : Collected (calls_upto p is fs k) (demand_of p (frame_in fs k) (slice_get is k)) calls = collected (calls_upto p is fs k) (demand_of p (frame_in fs k) (slice_get is k)) calls h in
    elim (cases_eq n k) [
      | inl e ↦
          (let d : demand_of p (frame_in fs k) (slice_get is k) ≡ demand_in p (frame_in fs n) i = ap (λ m. demand_of p (frame_in fs m) (slice_get is m)) (sym e) ∙ ap (demand_of p (frame_in fs n)) at in
          subst (IsMetBy calls) d (met_now (calls_upto p is fs k) (demand_of p (frame_in fs k) (slice_get is k)) calls c))
      | inr other ↦ met_after (calls_upto p is fs k) (demand_of p (frame_in fs k) (slice_get is k)) (demand_in p (frame_in fs n) i) calls c (met p is fs k c.before c.is n i (omega (arith, lt, other)) at)
    ]

-- a form with a demand stands there
form_there : (p : Program) (o : Option Frame) (f : Option Insn) (m : ℕ) → demand_of p o f ≡ Call m → (i : Insn) × (f ≡ Some i) × (demand_in p o i ≡ Call m)
form_there p o (Some i) m h = (i, refl, h)
form_there p o None m h = absurd (false≢true (ap is_call h))

loud_there : (p : Program) (o : Option Frame) (f : Option Insn) → demand_of p o f ≡ Loud → (i : Insn) × (f ≡ Some i) × (demand_in p o i ≡ Loud)
loud_there p o (Some i) h = (i, refl, h)
loud_there p o None h = absurd (false≢true (ap is_loud h))

pub called : (p : Program) (is : List Insn) (fs : List (Option Frame)) (k : ℕ) (calls : List ℕ) → calls_upto p is fs k ≡ Some calls → (m : ℕ) → Contains calls m → IsCalledIn p is fs m
called p is fs zero calls h m c = absurd (none_called m (subst (λ (l : List ℕ). Contains l m) (same_list [] calls h) c))
called p is fs (suc k) calls h m c =
    let w : Collected (calls_upto p is fs k) (demand_of p (frame_in fs k) (slice_get is k)) calls = collected (calls_upto p is fs k) (demand_of p (frame_in fs k) (slice_get is k)) calls h in
    elim w.how [
      | inl same ↦ called p is fs k w.before w.is m (subst (λ l. Contains l m) same.1 c)
      | inr more ↦ elim (Contains-push_cases w.before more.0 m (subst (λ l. Contains l m) more.2 c)) [
        | inl old ↦ called p is fs k w.before w.is m old
        | inr e ↦
            (let f : (i : Insn) × (slice_get is k ≡ Some i) × (demand_in p (frame_in fs k) i ≡ Call more.0) = form_there p (frame_in fs k) (slice_get is k) more.0 more.1 in
            record { n = k; form = f.0; there = f.1; called = f.2 ∙ ap Call e })
      ]
    ]

lost : (o : Option (List ℕ)) (d : Demand) → with_demand o d ≡ None → (o ≡ None) ⊎ (d ≡ Loud)
lost None d h = inl refl
lost (Some b) Nothing h = absurd (false≢true (ap is_some (sym h)))
lost (Some b) (Call m) h = absurd (false≢true (ap is_some (sym h)))
lost (Some b) Loud h = inr refl

pub loud_found : (p : Program) (is : List Insn) (fs : List (Option Frame)) (k : ℕ) → calls_upto p is fs k ≡ None → IsLoudAt p is fs
loud_found p is fs zero h = absurd (false≢true (ap is_some (sym h)))
loud_found p is fs (suc k) h = elim (lost (calls_upto p is fs k) (demand_of p (frame_in fs k) (slice_get is k)) h) [
  | inl before ↦ loud_found p is fs k before
  | inr now ↦
      (let f : (i : Insn) × (slice_get is k ≡ Some i) × (demand_in p (frame_in fs k) i ≡ Loud) = loud_there p (frame_in fs k) (slice_get is k) now in
      record { n = k; form = f.0; there = f.1; loud = f.2 })
]

-- what is lost stays lost
pub lost_on : (p : Program) (is : List Insn) (fs : List (Option Frame)) (n k : ℕ) → k ≤ n → calls_upto p is fs k ≡ None → calls_upto p is fs n ≡ None
lost_on p is fs zero k le h = let e : zero ≡ k = omega (arith, le) in ap (calls_upto p is fs) e ∙ h
lost_on p is fs (suc n) k le h = elim (cases_eq k (suc n)) [
  | inl e ↦ ap (calls_upto p is fs) (sym e) ∙ h
  | inr other ↦ ap (λ o. with_demand o (demand_of p (frame_in fs n) (slice_get is n))) (lost_on p is fs n k (omega (arith, le, other)) h)
]

-- ---- nodes

pub nodes_long : (is : List Insn) (fs : List (Option Frame)) (k : ℕ) → length (nodes_upto is fs k) ≡ k
nodes_long is fs zero = refl
nodes_long is fs (suc k) = omega (arith, nodes_long is fs k, length-append (nodes_upto is fs k) (node_of (frame_in fs k) (slice_get is k) k ∷ []))

node_there : (xs : List Node) (x : Node) → slice_get (xs ++ x ∷ []) (length xs) ≡ Some x
node_there [] x = refl
node_there (y ∷ xs) x = node_there xs x

node_stays : (xs ys : List Node) (n : ℕ) → n < length xs → slice_get (xs ++ ys) n ≡ slice_get xs n
node_stays [] ys n lt = absurd (nothing_below n lt)
node_stays (x ∷ xs) ys zero lt = refl
node_stays (x ∷ xs) ys (suc n) lt = node_stays xs ys n (omega (arith, lt))

pub node_at : (is : List Insn) (fs : List (Option Frame)) (k n : ℕ) → n < k → slice_get (nodes_upto is fs k) n ≡ Some (node_of (frame_in fs n) (slice_get is n) n)
node_at is fs zero n lt = absurd (nothing_below n lt)
node_at is fs (suc k) n lt = elim (cases_eq n k) [
  | inl e ↦
      (let at : n ≡ length (nodes_upto is fs k) = e ∙ sym (nodes_long is fs k) in
      ap (slice_get (nodes_upto is fs (suc k))) at ∙ node_there (nodes_upto is fs k) (node_of (frame_in fs k) (slice_get is k) k) ∙ ap (λ m. Some (node_of (frame_in fs m) (slice_get is m) m)) (sym e))
  | inr other ↦
      node_stays (nodes_upto is fs k) (node_of (frame_in fs k) (slice_get is k) k ∷ []) n (omega (arith, lt, other, nodes_long is fs k)) ∙ node_at is fs k n (omega (arith, lt, other))
]

pub form_node : (is : List Insn) (fs : List (Option Frame)) (n : ℕ) (i : Insn) → slice_get is n ≡ Some i → slice_get (nodes_upto is fs (length is)) n ≡ Some (record { may = true; needs = ways_in (frame_in fs n) i n })
form_node is fs n i at = node_at is fs (length is) n (slice_get_within is n i at) ∙ ap (λ o. Some (node_of (frame_in fs n) o n)) at

-- ---- tests on all of a list

pub passes_at : {X : Type 0} (f : X → Bool) (xs : List X) (n : ℕ) (d : X) → list_all f xs ≡ true → n < length xs → f (get_or xs n d) ≡ true
passes_at f xs n d h lt = All-contains (λ y. f y ≡ true) xs (get_or xs n d) (AllPass-from_list_all f xs h) (Contains-get_or xs n d lt)

fails_step : {X : Type 0} (f : X → Bool) (x : X) (xs : List X) (d : X) (b : Bool) → f x ≡ b → list_all f (x ∷ xs) ≡ false
    → (list_all f xs ≡ false → (n : ℕ) × (n < length xs) × (f (get_or xs n d) ≡ false)) → (n : ℕ) × (n < length (x ∷ xs)) × (f (get_or (x ∷ xs) n d) ≡ false)
fails_step f x xs d false e h ih = (0, omega arith, e)
fails_step f x xs d true e h ih = let w : (n : ℕ) × (n < length xs) × (f (get_or xs n d) ≡ false) = ih (sym (ap (λ c. c && list_all f xs) e) ∙ h) in (suc w.0, omega (arith, w.1), w.2)

pub fails_at : {X : Type 0} (f : X → Bool) (xs : List X) (d : X) → list_all f xs ≡ false → (n : ℕ) × (n < length xs) × (f (get_or xs n d) ≡ false)
fails_at f [] d h = absurd (false≢true (sym h))
fails_at f (x ∷ xs) d h = fails_step f x xs d (f x) refl h (λ g. fails_at f xs d g)

-- ---- what is known of a body by itself

some_of : (o : Option ℕ) → is_some o ≡ true → (r : ℕ) × (o ≡ Some r)
some_of (Some r) h = (r, refl)
some_of None h = absurd (false≢true h)

-- a position whose way leads to one without a rank
held : (is : List Insn) (fs : List (Option Frame)) (ranks : List (Option ℕ)) (n : ℕ) (i : Insn) (b : Bool) → IsSettled (nodes_upto is fs (length is)) ranks → slice_get is n ≡ Some i
    → not (has_rank ranks n) ≡ true → list_all (has_rank ranks) (ways_in (frame_in fs n) i n) ≡ b → (m : ℕ) × Contains (ways_in (frame_in fs n) i n) m × (not (has_rank ranks m) ≡ true)
held is fs ranks n i true s at stuck e = absurd (false≢true (ap not (sym (s.closed n (record { may = true; needs = ways_in (frame_in fs n) i n }) (form_node is fs n i at) e)) ∙ stuck))
held is fs ranks n i false s at stuck e =
    let ways : List ℕ = ways_in (frame_in fs n) i n in
    let w : (k : ℕ) × (k < length ways) × (has_rank ranks (get_or ways k 0) ≡ false) = fails_at (has_rank ranks) ways 0 e in
    (get_or ways w.0 0, Contains-get_or ways w.0 0 w.1, ap not w.2)

circling : (is : List Insn) (fs : List (Option Frame)) (ranks : List (Option ℕ)) → IsSettled (nodes_upto is fs (length is)) ranks → list_all is_some ranks ≡ false → IsCircling is fs
circling is fs ranks s h =
    let w : (n : ℕ) × (n < length ranks) × (is_some (get_or ranks n None) ≡ false) = fails_at is_some ranks None h in
    record {
      stuck = λ n. not (has_rank ranks n);
      first = w.0;
      within = omega (arith, w.1, s.long, nodes_long is fs (length is));
      begins = ap not w.2;
      goes = λ n i at stuck. held is fs ranks n i (list_all (has_rank ranks) (ways_in (frame_in fs n) i n)) s at stuck refl;
    }

calm_at : (p : Program) (is : List Insn) (fs : List (Option Frame)) (calls : List ℕ) (ranks : List (Option ℕ)) → calls_upto p is fs (length is) ≡ Some calls → IsSettled (nodes_upto is fs (length is)) ranks
    → list_all is_some ranks ≡ true → length is < 2 ^ 32 → (n : ℕ) (i : Insn) → slice_get is n ≡ Some i → IsCalmAt p (frame_in fs n) calls ranks n i
calm_at p is fs calls ranks c s h few n i at =
    let lt : n < length is = slice_get_within is n i at in
    let r : (r : ℕ) × (rank_at ranks n ≡ Some r) = some_of (rank_at ranks n) (passes_at is_some ranks n None h (omega (arith, lt, s.long, nodes_long is fs (length is)))) in
    record {
      rank = r.0;
      is = r.1;
      short = omega (arith, s.short n r.0 r.1, few, nodes_long is fs (length is));
      met = met p is fs (length is) calls c n i lt at;
      lower = (s.sound n r.0 (record { may = true; needs = ways_in (frame_in fs n) i n }) (form_node is fs n i at) r.1).needs;
    }

pub own : (p : Program) (is : List Insn) (fs : List (Option Frame)) (calls : List ℕ) (node : Node) (ranks : List (Option ℕ)) → calls_upto p is fs (length is) ≡ Some calls
    → IsRanked is fs calls node ranks → IsOwn p is fs node ranks
own p is fs calls node ranks c r = record {
  calm = λ may n i at. subst (λ (l : List ℕ). IsCalmAt p (frame_in fs n) l ranks n i) (sym r.needs) (calm_at p is fs calls ranks c r.settled (sym r.may ∙ may) r.few n i at);
  called = λ m h. called p is fs (length is) calls c m (subst (λ l. Contains l m) r.needs h);
  loud = λ off. Circles (circling is fs ranks r.settled (sym r.may ∙ off));
}

pub loud_own : (p : Program) (is : List Insn) (fs : List (Option Frame)) (node : Node) (ranks : List (Option ℕ)) → node ≡ record { may = false; needs = [] } → IsLoudSelf p is fs → IsOwn p is fs node ranks
loud_own p is fs node ranks e h = record {
  calm = λ may n i at. absurd (false≢true (sym (ap (λ (x : Node). x.may) e) ∙ may));
  called = λ m c. absurd (none_called m (subst (λ l. Contains l m) (ap (λ (x : Node). x.needs) e) c));
  loud = λ off. h;
}

-- ---- as the loops collect it

form_at : (is : List Insn) (k : ℕ) (i : Insn) → k < length is → i ≡ get_or is k i → slice_get is k ≡ Some i
form_at is k i lt e = slice_get-get_or is k i lt ∙ ap Some (sym e)

pub call_more : (p : Program) (is : List Insn) (fs : List (Option Frame)) (k : ℕ) (i : Insn) (calls calls' : List ℕ) (d : Demand) (b : Bool) → k < length is → i ≡ get_or is k i
    → Some calls ≡ calls_upto p is fs k → d ≡ demand_in p (frame_in fs k) i → cond b (Some calls') None ≡ with_demand (Some calls) d → b ≡ true → Some calls' ≡ calls_upto p is fs (k + 1)
call_more p is fs k i calls calls' d b lt e before h step on =
    let now : with_demand (Some calls) d ≡ calls_upto p is fs (suc k) = ap (with_demand (Some calls)) (h ∙ ap (demand_of p (frame_in fs k)) (sym (form_at is k i lt e))) ∙ ap (λ o. with_demand o (demand_of p (frame_in fs k) (slice_get is k))) before in
    let next : suc k ≡ k + 1 = omega arith in
    subst (λ m. Some calls' ≡ calls_upto p is fs m) next (sym (ap (λ c. cond c (Some calls') None) on) ∙ step ∙ now)

pub call_lost : (p : Program) (is : List Insn) (fs : List (Option Frame)) (k : ℕ) (i : Insn) (calls calls' : List ℕ) (d : Demand) (b : Bool) → k < length is → i ≡ get_or is k i
    → Some calls ≡ calls_upto p is fs k → d ≡ demand_in p (frame_in fs k) i → cond b (Some calls') None ≡ with_demand (Some calls) d → b ≡ false → None ≡ calls_upto p is fs (length is)
call_lost p is fs k i calls calls' d b lt e before h step off =
    let now : with_demand (Some calls) d ≡ calls_upto p is fs (suc k) = ap (with_demand (Some calls)) (h ∙ ap (demand_of p (frame_in fs k)) (sym (form_at is k i lt e))) ∙ ap (λ o. with_demand o (demand_of p (frame_in fs k) (slice_get is k))) before in
    let none : calls_upto p is fs (suc k) ≡ None = sym now ∙ sym step ∙ ap (λ c. cond c (Some calls') None) off in
    sym (lost_on p is fs (length is) (suc k) (omega (arith, lt)) none)

pub if_ok : {A E : Type 0} (P Q : A → Type 0) (r : Result A E) → ((a : A) → P a → Q a) → IfOk r P → IfOk r Q
if_ok P Q (Ok a) f h = f a h
if_ok P Q (Err e) f h = h
