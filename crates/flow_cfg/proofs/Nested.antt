-- Ends of parts.
use Rattle.std.proofs.Common.{◌≡◌, ◌≢◌, ℕ, zero, suc, ◌+◌, ◌-◌, ◌<◌, ◌≤◌, ◌⊎◌, inl, inr, List, [], ◌∷◌, ◌++◌, length, slice_index, get_or, set, max, refl, take, drop, All, ◌∙◌, subst, arith, length-set, get_or-set_other, get_or-set_same}
use Rattle.std.proofs.lemmas.List.{length_push, take_at}
use Rattle.std.proofs.lemmas.List.Elements.{All-more, All-weaker}
use Rattle.flow_cfg.specs.Parts.{AreEnds, NestFrom, Nest, NoSmaller, IsHeld, IsCausedBy, Causes, HaveCauses, IsGrownFor, StayAlone, HasSource, HaveSources, IsBack, IsCausedSo, AreCausedSo}

-- ---- ends behind each place

pub push_place : (found : List ℕ) (at k : ℕ) (f : ℕ → ℕ) → ((j : ℕ) → j < length found → slice_index found j ≡ f j) → at ≡ f (length found) → k < length found + 1 → slice_index (found ++ at ∷ []) k ≡ f k
push_place [] at zero f h e lt = e
push_place [] at (suc k) f h e lt = absurd (omega (arith, lt))
push_place (x ∷ found) at zero f h e lt = h 0 (omega arith)
push_place (x ∷ found) at (suc k) f h e lt = push_place found at k (λ j. f (suc j)) (λ j l. h (suc j) (omega (arith, l))) e (omega (arith, lt))

-- so many ends are made, and the last one is this
pub record AreSingle (ends : List ℕ) (end made : ℕ) : Type 0 where
  pub last : end ≡ made
  pub long : length ends ≡ made
  pub each : (i : ℕ) → i < length ends → slice_index ends i ≡ i + 1

pub single_more : (ends : List ℕ) (end made : ℕ) → AreSingle ends end made → AreSingle (ends ++ (end + 1) ∷ []) (end + 1) (made + 1)
single_more ends end made s = record {
  last = omega (arith, s.last);
  long = omega (arith, length_push ends (end + 1), s.long);
  each = λ i lt. push_place ends (end + 1) i (λ j. j + 1) s.each (omega (arith, s.last, s.long)) (omega (arith, lt, length_push ends (end + 1)));
}

pub single_ends : (ends : List ℕ) (end made : ℕ) → AreSingle ends end made → AreEnds ends
single_ends ends end made s = record {
  past = λ i lt. omega (arith, s.each i lt);
  within = λ i lt. omega (arith, s.each i lt);
}

-- ---- one end

pub three : (i place : ℕ) → ((i < place) ⊎ (i ≡ place)) ⊎ (place < i)
three zero zero = inl (inr refl)
three zero (suc place) = inl (inl (omega arith))
three (suc i) zero = inr (omega arith)
three (suc i) (suc place) = elim (three i place) [ inl less ↦ elim less [ inl lt ↦ inl (inl (omega (arith, lt))) | inr same ↦ inl (inr (omega (arith, same))) ] | inr more ↦ inr (omega (arith, more)) ]

-- the end of the part at a place as far as another place
pub record IsWhole (ends : List ℕ) (head end place : ℕ) : Type 0 where
  pub behind : head < place
  pub upto : place ≤ end
  pub within : end ≤ length ends
  pub grown : slice_index ends head ≤ end
  pub inner : (i : ℕ) → head < i → i < place → slice_index ends i ≤ place
  pub alone : slice_index ends head ≡ head + 1 → end ≡ head + 1
  pub source : HasSource ends head end

pub whole_begins : (ends : List ℕ) (head : ℕ) → AreEnds ends → head < length ends → IsWhole ends head (slice_index ends head) (head + 1)
whole_begins ends head e lt = record {
  behind = omega arith;
  upto = omega (arith, e.past head lt);
  within = e.within head lt;
  grown = omega arith;
  inner = λ i above below. absurd (omega (arith, above, below));
  alone = λ one. one;
  source = record { source = head; from = omega arith; short = lt; same = refl; more = inl refl };
}

source_more : (ends : List ℕ) (head end place farther : ℕ) → head < place → place < end → place < length ends → farther ≡ max end (slice_index ends place) → HasSource ends head end → HasSource ends head farther
source_more ends head end place farther behind lt short is s = elim (three end (slice_index ends place)) [
  | inl less ↦ elim less [
    | inl lesser ↦ record { source = place; from = omega (arith, behind); short = short; same = omega (arith, is, lesser); more = inr (omega (arith, is, lesser, lt)) }
    | inr same ↦ subst (HasSource ends head) (let e : end ≡ farther = omega (arith, is, same) in e) s
  ]
  | inr more ↦ subst (HasSource ends head) (let e : end ≡ farther = omega (arith, is, more) in e) s
]

inner_more : (ends : List ℕ) (head end place : ℕ) → NestFrom ends (head + 1) → AreEnds ends → IsWhole ends head end place → place < end → (i : ℕ) → head < i → i < slice_index ends place → ((i < place) ⊎ (i ≡ place)) ⊎ (place < i) → slice_index ends i ≤ slice_index ends place
inner_more ends head end place nest e w lt i above below (inl (inl less)) = omega (arith, w.inner i above less, e.past place (omega (arith, lt, w.within)))
inner_more ends head end place nest e w lt i above below (inl (inr same)) = rw same (omega arith)
inner_more ends head end place nest e w lt i above below (inr more) =
    let short : slice_index ends place ≤ length ends = e.within place (omega (arith, lt, w.within)) in
    elim (nest place i (omega (arith, w.behind)) more (omega (arith, below, short))) [ inl apart ↦ absurd (omega (arith, apart, below)) | inr held ↦ held ]

pub whole_more : (ends : List ℕ) (head end place farther : ℕ) → AreEnds ends → NestFrom ends (head + 1) → farther ≡ max end (slice_index ends place) → IsWhole ends head end place → place < end → IsWhole ends head farther (slice_index ends place)
whole_more ends head end place farther e nest is w lt =
    let short : place < length ends = omega (arith, lt, w.within) in
    record {
      behind = omega (arith, w.behind, e.past place short);
      upto = omega (arith, is);
      within = omega (arith, is, w.within, e.within place short);
      grown = omega (arith, is, w.grown);
      inner = λ i above below. inner_more ends head end place nest e w lt i above below (three i place);
      alone = λ one. absurd (omega (arith, w.alone one, w.behind, lt));
      source = source_more ends head end place farther w.behind lt short is w.source;
    }

pub whole_all : (ends : List ℕ) (head end place : ℕ) → IsWhole ends head end place → end ≤ place → (i : ℕ) → head < i → i < end → slice_index ends i ≤ end
whole_all ends head end place w le i above below = omega (arith, w.inner i above (omega (arith, below, w.upto, le)), w.upto, le)

-- ---- an end that is set

pub at_or_not : (i head : ℕ) → (i ≡ head) ⊎ (i ≢ head)
at_or_not i head = elim (three i head) [ inl less ↦ elim less [ inl lt ↦ inr (λ e. omega (arith, lt, e)) | inr same ↦ inl same ] | inr more ↦ inr (λ e. omega (arith, more, e)) ]

set_here : (ends : List ℕ) (head end i : ℕ) → head < length ends → i ≡ head → slice_index (set ends head end) i ≡ end
set_here ends head end i lt same = rw (same, get_or-set_same ends head end 0 lt) refl

set_there : (ends : List ℕ) (head end i : ℕ) → i ≢ head → slice_index (set ends head end) i ≡ slice_index ends i
set_there ends head end i other = get_or-set_other ends head i end 0 other

pub set_ends : (ends : List ℕ) (head end : ℕ) → AreEnds ends → head < length ends → slice_index ends head ≤ end → end ≤ length ends → AreEnds (set ends head end)
set_ends ends head end e lt more within = record {
  past = λ i short. elim (at_or_not i head) [ inl same ↦ omega (arith, set_here ends head end i lt same, same, e.past head lt, more) | inr other ↦ omega (arith, set_there ends head end i other, e.past i (omega (arith, short, length-set ends head end))) ];
  within = λ i short. elim (at_or_not i head) [ inl same ↦ omega (arith, set_here ends head end i lt same, within, length-set ends head end) | inr other ↦ omega (arith, set_there ends head end i other, length-set ends head end, e.within i (omega (arith, short, length-set ends head end))) ];
}

pub set_grown : (ends : List ℕ) (head end : ℕ) → head < length ends → slice_index ends head ≤ end → NoSmaller ends (set ends head end)
set_grown ends head end lt more i = elim (at_or_not i head) [ inl same ↦ (let le : slice_index ends i ≤ end = rw same more in omega (arith, set_here ends head end i lt same, le)) | inr other ↦ omega (arith, set_there ends head end i other) ]

-- ---- ends from a place on

pub record IsNested (first ends : List ℕ) (head : ℕ) : Type 0 where
  pub long : length ends ≡ length first
  pub are_ends : AreEnds ends
  pub grown : NoSmaller first ends
  pub nest : NestFrom ends head
  pub alone : StayAlone first ends
  pub sources : HaveSources first ends

suc_from : (head i : ℕ) → head ≤ i → i ≢ head → head + 1 ≤ i
suc_from head i from other = elim (three i head) [ inl less ↦ elim less [ inl lt ↦ absurd (omega (arith, lt, from)) | inr same ↦ absurd (other same) ] | inr more ↦ omega (arith, more) ]

nest_more : (ends : List ℕ) (head end : ℕ) → head < length ends → NestFrom ends (head + 1) → ((i : ℕ) → head < i → i < end → slice_index ends i ≤ end)
    → (i j : ℕ) → head ≤ i → i < j → j < length ends → (slice_index (set ends head end) i ≤ j) ⊎ (slice_index (set ends head end) j ≤ slice_index (set ends head end) i)
nest_more ends head end lt nest held i j from less short =
    let there : slice_index (set ends head end) j ≡ slice_index ends j = set_there ends head end j (λ same. omega (arith, same, from, less)) in
    elim (at_or_not i head) [
      | inl same ↦
          let here : slice_index (set ends head end) i ≡ end = set_here ends head end i lt same in
          elim (three j end) [
            | inl before ↦ elim before [
              | inl in_it ↦ inr (omega (arith, here, there, held j (omega (arith, same, less)) in_it))
              | inr at_end ↦ inl (omega (arith, here, at_end))
            ]
            | inr past ↦ inl (omega (arith, here, past))
          ]
      | inr other ↦
          let also : slice_index (set ends head end) i ≡ slice_index ends i = set_there ends head end i other in
          elim (nest i j (suc_from head i from other) less short) [
            | inl apart ↦ inl (omega (arith, also, apart))
            | inr holds ↦ inr (omega (arith, also, there, holds))
          ]
    ]

alone_more : (ends : List ℕ) (head end i : ℕ) → head < length ends → (slice_index ends head ≡ head + 1 → end ≡ head + 1) → slice_index ends i ≡ i + 1 → (i ≡ head) ⊎ (i ≢ head) → slice_index (set ends head end) i ≡ i + 1
alone_more ends head end i lt alone one (inl same) = let one' : slice_index ends head ≡ head + 1 = subst (λ (h : ℕ). slice_index ends h ≡ h + 1) same one in omega (arith, set_here ends head end i lt same, alone one', same)
alone_more ends head end i lt alone one (inr other) = omega (arith, set_there ends head end i other, one)

source_of : (first ends : List ℕ) (head end : ℕ) → HaveSources first ends → HasSource ends head end → HasSource first head end
source_of first ends head end all s =
    let t : HasSource first s.source (slice_index ends s.source) = all s.source s.short in
    record {
      source = t.source;
      from = omega (arith, t.from, s.from);
      short = t.short;
      same = omega (arith, t.same, s.same);
      more = elim t.more [
        | inr past ↦ inr (omega (arith, past, s.same))
        | inl here ↦ elim s.more [ inl same ↦ inl (omega (arith, here, same)) | inr past ↦ inr (omega (arith, here, past)) ]
      ];
    }

source_set : (first ends : List ℕ) (head end i : ℕ) → head < length ends → HaveSources first ends → HasSource ends head end → i < length ends → (i ≡ head) ⊎ (i ≢ head) → HasSource first i (slice_index (set ends head end) i)
source_set first ends head end i lt all s short (inl same) = rw (set_here ends head end i lt same) (rw same (source_of first ends head end all s))
source_set first ends head end i lt all s short (inr other) = rw (set_there ends head end i other) (all i short)

pub nested_more : (first ends : List ℕ) (head end : ℕ) → IsNested first ends (head + 1) → head < length ends → slice_index ends head ≤ end → end ≤ length ends → ((i : ℕ) → head < i → i < end → slice_index ends i ≤ end) → (slice_index ends head ≡ head + 1 → end ≡ head + 1) → HasSource ends head end → IsNested first (set ends head end) head
nested_more first ends head end n lt more within held alone source = record {
  long = length-set ends head end ∙ n.long;
  are_ends = set_ends ends head end n.are_ends lt more within;
  grown = λ i. omega (arith, n.grown i, set_grown ends head end lt more i);
  nest = λ i j from less short. nest_more ends head end lt n.nest held i j from less (omega (arith, short, length-set ends head end));
  alone = λ i one. alone_more ends head end i lt alone (n.alone i one) (at_or_not i head);
  sources = λ i short. source_set first ends head end i lt n.sources source (omega (arith, short, length-set ends head end)) (at_or_not i head);
}

pub nested_none : (ends : List ℕ) → AreEnds ends → IsNested ends ends (length ends)
nested_none ends e = record {
  long = refl;
  are_ends = e;
  grown = λ i. omega arith;
  nest = λ i j from less short. absurd (omega (arith, from, less, short));
  alone = λ i one. one;
  sources = λ i short. record { source = i; from = omega arith; short = short; same = refl; more = inl refl };
}

pub nested_before : (first ends : List ℕ) (head end : ℕ) → 0 < head → head ≤ length ends → IsNested first ends head → slice_index ends (head - 1) ≤ end → end ≤ length ends → ((i : ℕ) → head - 1 < i → i < end → slice_index ends i ≤ end) → (slice_index ends (head - 1) ≡ head - 1 + 1 → end ≡ head - 1 + 1) → HasSource ends (head - 1) end → IsNested first (set ends (head - 1) end) (head - 1)
nested_before first ends head end some le n more within held alone source =
    let here : head ≡ head - 1 + 1 = omega arith in
    nested_more first ends (head - 1) end (subst (λ (h : ℕ). IsNested first ends h) here n) (omega arith) more within held alone source

pub nested_all : (first ends : List ℕ) (head : ℕ) → head ≤ 0 → IsNested first ends head → Nest ends
nested_all first ends head none n = λ i j less short. n.nest i j (omega (arith, none)) less short

-- ---- edges that are held

held_grown : (places ends others : List ℕ) → NoSmaller ends others → (edge : ℕ × ℕ) → IsHeld places ends edge → IsHeld places others edge
held_grown places ends others grown edge held lt lt' back = omega (arith, held lt lt' back, grown (slice_index places edge.1))

pub all_held_grown : (places ends others : List ℕ) (edges : List (ℕ × ℕ)) → NoSmaller ends others → All (IsHeld places ends) edges → All (IsHeld places others) edges
all_held_grown places ends others edges grown held = All-weaker (IsHeld places ends) (IsHeld places others) (held_grown places ends others grown) edges held

pub held_more : (places ends others : List ℕ) (edges : List (ℕ × ℕ)) (i : ℕ) → i < length edges → NoSmaller ends others → All (IsHeld places ends) (take i edges) → IsHeld places others (get_or edges i (0, 0)) → All (IsHeld places others) (take (i + 1) edges)
held_more places ends others edges i lt grown held here = All-more (IsHeld places others) edges i (0, 0) lt (all_held_grown places ends others (take i edges) grown held) here

-- ---- ends that have a cause

by_same : (places ends others : List ℕ) (edge : ℕ × ℕ) (head : ℕ) → slice_index others head ≡ slice_index ends head → IsCausedBy places ends edge head → IsCausedBy places others edge head
by_same places ends others edge head same c = record { from = c.from; to = c.to; is_head = c.is_head; behind = c.behind; is_last = omega (arith, c.is_last, same) }

causes_same : (places ends others : List ℕ) (edges : List (ℕ × ℕ)) (upto head : ℕ) → slice_index others head ≡ slice_index ends head → Causes places ends edges upto head → Causes places others edges (upto + 1) head
causes_same places ends others edges upto head same c = record { at = c.at; is_below = omega (arith, c.is_below); by_edge = by_same places ends others (get_or edges c.at (0, 0)) head same c.by_edge }

causes_more : (places ends grown : List ℕ) (edges : List (ℕ × ℕ)) (upto : ℕ) → HaveCauses places ends edges upto → IsGrownFor places (get_or edges upto (0, 0)) ends grown → HaveCauses places grown edges (upto + 1)
causes_more places ends grown edges upto known for_edge head past = elim (for_edge head) [
  | inl same ↦ causes_same places ends grown edges upto head same (known head (omega (arith, same, past)))
  | inr by ↦ record { at = upto; is_below = omega arith; by_edge = by }
]

alone_or_past : (ends : List ℕ) (i : ℕ) → i < slice_index ends i → (slice_index ends i ≡ i + 1) ⊎ (i + 1 < slice_index ends i)
alone_or_past ends i past = elim (three (i + 1) (slice_index ends i)) [ inl less ↦ elim less [ inl lt ↦ inr lt | inr same ↦ inl (omega (arith, same)) ] | inr more ↦ absurd (omega (arith, more, past)) ]

short_or_past : (ends : List ℕ) (i : ℕ) → (i < length ends) ⊎ (slice_index ends i ≡ 0)
short_or_past [] i = inr refl
short_or_past (x ∷ xs) zero = inl (omega arith)
short_or_past (x ∷ xs) (suc i) = elim (short_or_past xs i) [ inl lt ↦ inl (omega (arith, lt)) | inr none ↦ inr none ]

back_of : (places ends : List ℕ) (edges : List (ℕ × ℕ)) (head last : ℕ) (c : Causes places ends edges (length edges) head) → last + 1 ≡ slice_index ends head → IsBack places edges last head
back_of places ends edges head last c is = record {
  at = c.at;
  short = c.is_below;
  is_from = c.by_edge.from;
  is_to = c.by_edge.to;
  starts = omega (arith, c.by_edge.is_last, is);
  ends = c.by_edge.is_head;
}

past_source : (first : List ℕ) (head end : ℕ) → head + 1 < end → (s : HasSource first head end) → s.source + 1 < slice_index first s.source
past_source first head end past s = elim s.more [ inl same ↦ omega (arith, same, s.same, past) | inr more ↦ omega (arith, more, s.same) ]

caused_nested : (places first others : List ℕ) (edges : List (ℕ × ℕ)) (head : ℕ) → slice_index first head ≤ slice_index others head → head + 1 < slice_index first head → head + 1 < slice_index others head → HaveCauses places first edges (length edges) → HasSource first head (slice_index others head) → IsCausedSo places others edges head
caused_nested places first others edges head no_smaller past past' known s =
    let c : Causes places first edges (length edges) head = known head past in
    let d : Causes places first edges (length edges) s.source = known s.source (past_source first head (slice_index others head) past' s) in
    record {
      place = slice_index places (get_or edges c.at (0, 0)).0;
      behind = c.by_edge.behind;
      within = omega (arith, c.by_edge.is_last, no_smaller);
      cause = back_of places first edges head (slice_index places (get_or edges c.at (0, 0)).0) c c.by_edge.is_last;
      last = slice_index places (get_or edges d.at (0, 0)).0;
      is_last = omega (arith, d.by_edge.is_last, s.same);
      target = s.source;
      from = s.from;
      before = d.by_edge.behind;
      back = back_of places first edges s.source (slice_index places (get_or edges d.at (0, 0)).0) d d.by_edge.is_last;
    }

pub causes_nested : (places first others : List ℕ) (edges : List (ℕ × ℕ)) → AreEnds first → length others ≡ length first → NoSmaller first others → StayAlone first others → HaveSources first others → HaveCauses places first edges (length edges) → AreCausedSo places others edges
causes_nested places first others edges e long no_smaller alone sources known head past = elim (short_or_past others head) [
  | inr none ↦ absurd (omega (arith, none, past))
  | inl short ↦ elim (alone_or_past first head (e.past head (omega (arith, short, long)))) [
    | inl one ↦ absurd (omega (arith, alone head one, past))
    | inr more ↦ caused_nested places first others edges head (no_smaller head) more past known (sources head short)
  ]
]

pub causes_whole : (places first slice others : List ℕ) (edges : List (ℕ × ℕ)) (len : ℕ) → length others ≡ len → len ≡ length first → slice ≡ first → AreEnds first → NoSmaller slice others → StayAlone slice others → HaveSources slice others → HaveCauses places first edges (length edges)
    → AreCausedSo places (take len (others ++ drop (length others) first)) edges
causes_whole places first slice others edges len whole long same e no_smaller alone sources known =
    rw (take_at others (drop (length others) first) len whole) (
    let all : AreCausedSo places others edges = causes_nested places first others edges e (omega (arith, whole, long)) (subst (λ (l : List ℕ). NoSmaller l others) same no_smaller) (subst (λ (l : List ℕ). StayAlone l others) same alone) (subst (λ (l : List ℕ). HaveSources l others) same sources) known in
    all
    )

pub causes_none : (places ends : List ℕ) (edges : List (ℕ × ℕ)) → ((i : ℕ) → i < length ends → slice_index ends i ≡ i + 1) → HaveCauses places ends edges 0
causes_none places ends edges single head past = elim (short_or_past ends head) [ inr none ↦ absurd (omega (arith, none, past)) | inl short ↦ absurd (omega (arith, single head short, past)) ]

pub record HoldsSoFar (places ends : List ℕ) (edges : List (ℕ × ℕ)) (upto : ℕ) : Type 0 where
  pub long : length ends ≡ length places
  pub are_ends : AreEnds ends
  pub held : All (IsHeld places ends) (take upto edges)
  pub caused : HaveCauses places ends edges upto

pub hold_more : (places ends slice grown : List ℕ) (edges : List (ℕ × ℕ)) (upto len : ℕ) → length grown ≡ len → slice ≡ ends → upto < length edges → HoldsSoFar places ends edges upto → AreEnds grown → NoSmaller slice grown → length grown ≡ length places → IsHeld places grown (get_or edges upto (0, 0))
    → IsGrownFor places (get_or edges upto (0, 0)) slice grown → HoldsSoFar places (take len (grown ++ drop (length grown) ends)) edges (upto + 1)
hold_more places ends slice grown edges upto len whole same lt so_far are_ends no_smaller long here for_edge =
    rw (take_at grown (drop (length grown) ends) len whole) (let all : HoldsSoFar places grown edges (upto + 1) = record {
      long = long;
      are_ends = are_ends;
      held = held_more places ends grown edges upto lt (λ i. subst (λ (l : List ℕ). slice_index l i ≤ slice_index grown i) same (no_smaller i)) so_far.held here;
      caused = causes_more places ends grown edges upto so_far.caused (λ i. subst (λ (l : List ℕ). (slice_index grown i ≡ slice_index l i) ⊎ IsCausedBy places grown (get_or edges upto (0, 0)) i) same (for_edge i));
    } in all)
