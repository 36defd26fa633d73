-- The table while it rises, and at the end.
use Rattle.std.proofs.Common.{◌≡◌, ℕ, zero, suc, ◌+◌, ◌<◌, ◌≤◌, Bool, false, List, [], ◌∷◌, replicate, length, Option, Some, None, ◌⊎◌, inl, inr, refl, sym, ap, ◌∙◌, subst, arith, get_or-set_other}
use Rattle.std.specs.Prelude.{Contains, All, slice_get, slice_index_or, slice_set}
use Rattle.std.specs.List.Sorted.{IsPermutation}
use Rattle.std.proofs.lemmas.List.Sorted.{length_permutation}
use Rattle.std.proofs.Math.ListN.{length-set}
use Rattle.std.proofs.lemmas.Bool.{cases_eq}
use Rattle.std.proofs.lemmas.Option.{slice_get_within}
use Rattle.std.proofs.lemmas.List.{length-replicate}
use Rattle.insn_set.specs.declared.form.Insn.{Insn}
use Rattle.program_model.specs.declared.body.Body.{Body}
use Rattle.verify.specs.declared.kinds.Kind.{Kind}
use Rattle.verify.specs.declared.kinds.Kind.TheVariants as kind
use Rattle.verify.specs.declared.setting.Setting.{Setting}
use Rattle.verify.specs.Faults.{fault_of}
use Rattle.verify.specs.Flow.{greatest, next_of, place_at, arrived, Flowing, region_of, form_after, followed, visited_in, visited, unreached, started}
use Rattle.verify.specs.Frames.{Kinds, kind_at, all_undefined}
use Rattle.verify.specs.Typings.{Below, IsLattice, IsBelow, AtMost, Table, IsUnder, Arrives, IsWide, AtEach, onward_by, catches_by, unless_fault, carried, carried_to, IsFlow, IsLeastFlow, IsMonotone, IsCovering}
use Rattle.verify.specs.Waiting.{Waits, Queues, count_of}
use Rattle.verify.proofs.Queue.{taken as taken_out}
use Rattle.verify.proofs.Weights.{weight}
use Rattle.verify.proofs.Raises.{below_itself}
use Rattle.verify.proofs.Arrives.{Stands, stands_on, arrives_on, arrives_below, some_same}
use Rattle.verify.proofs.Reaches.{Reaches, all_from, arrived_reaches}
use Rattle.verify.proofs.Throws.{AreThrown, Settles, Follows, below_undefined}
use Rattle.verify.proofs.Visits.{Sent, follows_form}
use Rattle.verify.proofs.Wide.{form_after_long}

-- what has arrived stays
sent_on : (s : Setting) (l : IsLattice s.tables.now) (b : Body) (cs : List (Option ℕ)) (n : ℕ) (i : Insn) (a : Kinds) (x y : Table) → length y ≡ length x → IsUnder s.tables.now x y → Sent s b cs n i a x → Sent s b cs n i a y
sent_on s l b cs n i a x y e u p = record {
  onward = all_from (λ q. Arrives s.tables.now x q (carried s b n i a)) (λ q. Arrives s.tables.now y q (carried s b n i a)) (onward_by i (next_of n)) (λ q h. arrives_on s.tables.now l x y q (carried s b n i a) e u h) p.onward;
  caught = all_from (λ h. Arrives s.tables.now x h.0 (carried_to s b n i a h.1)) (λ h. Arrives s.tables.now y h.0 (carried_to s b n i a h.1)) (catches_by s.tables.now b i (region_of cs n)) (λ h k. arrives_on s.tables.now l x y h.0 (carried_to s b n i a h.1) e u k) p.caught;
}

-- the table so far: what a position that doesn't wait sends has arrived
pub record Solved (s : Setting) (b : Body) (cs : List (Option ℕ)) (entry : Kinds) (f : Flowing) : Type 0 where
  pub begins : Arrives s.tables.now f.arrivals.places 0 entry
  pub settles : Settles s.tables.now b f.regions f.arrivals.places
  pub done : AtEach b f.arrivals.places (λ n i a. Waits f.arrivals.waits n ⊎ Sent s b cs n i a f.arrivals.places)

-- a table at which what each position sends arrives
pub record Holds (s : Setting) (b : Body) (cs : List (Option ℕ)) (entry : Kinds) (y : Table) : Type 0 where
  pub long : length y ≡ length b.insns
  pub wide : IsWide b.registers y
  pub begins : Arrives s.tables.now y 0 entry
  pub sent : AtEach b y (λ n i a. Sent s b cs n i a y)

pub record Keeps (s : Setting) (b : Body) (cs : List (Option ℕ)) (entry : Kinds) (f : Flowing) : Type 0 where
  pub stands : Stands b.registers f.arrivals
  pub long : length f.arrivals.places ≡ length b.insns
  pub thrown : AreThrown b.registers f.regions
  pub regions : length f.regions ≡ length b.regions
  pub solved : IsLattice s.tables.now → Solved s b cs entry f
  pub least : IsLattice s.tables.now → IsMonotone s → (y : Table) → Holds s b cs entry y → IsUnder s.tables.now f.arrivals.places y × Settles s.tables.now b f.regions y

-- ---- what is lower sends what is lower

undefined_over : (s : Setting) (l : IsLattice s.tables.now) (m : ℕ) (a : Kinds) → length a.registers ≡ m → IsBelow s.tables.now a (all_undefined m)
undefined_over s l m a e = record {
  long = e ∙ sym (length-replicate m kind.Undefined);
  registers = λ r. subst (Below s.tables.now (kind_at a.registers r)) (sym (nothing_at m r)) (below_undefined s.tables.now l (kind_at a.registers r));
  result = below_undefined s.tables.now l a.result;
  caught = below_undefined s.tables.now l a.caught;
  receiver = below_undefined s.tables.now l a.receiver;
}
  where
    nothing_at : (m r : ℕ) → kind_at (replicate m kind.Undefined) r ≡ kind.Undefined
    nothing_at zero r = refl
    nothing_at (suc m) zero = refl
    nothing_at (suc m) (suc r) = nothing_at m r

module _ (s : Setting) (l : IsLattice s.tables.now) (mono : IsMonotone s) (b : Body) (n : ℕ) (i : Insn) (a c : Kinds) (le : IsBelow s.tables.now a c) (wide : length a.registers ≡ b.registers) where
  unless_long : (o : Option ℕ) (x : Kinds) → length x.registers ≡ b.registers → length (unless_fault o b x).registers ≡ b.registers
  unless_long None x e = e
  unless_long (Some r) x e = length-replicate b.registers kind.Undefined

  below_if : (x y : Kinds) (o p : Option ℕ) → fault_of s n a i ≡ o → fault_of s n c i ≡ p → length x.registers ≡ b.registers → (fault_of s n c i ≡ None → IsBelow s.tables.now x y) → IsBelow s.tables.now (unless_fault o b x) (unless_fault p b y)
  below_if x y o (Some r) e f w h = undefined_over s l b.registers (unless_fault o b x) (unless_long o x w)
  below_if x y None None e f w h = h f
  below_if x y (Some r) None e f w h = let g : Some r ≡ None = sym e ∙ mono.reads n i a c le f in absurd (cc)

  carried_below : IsBelow s.tables.now (carried s b n i a) (carried s b n i c)
  carried_below = below_if (form_after s n i a) (form_after s n i c) (fault_of s n a i) (fault_of s n c i) refl refl (form_after_long s n i a ∙ wide) (λ f. mono.after n i a c le f)

  caught_below : (k : Kind) → IsBelow s.tables.now (carried_to s b n i a k) (carried_to s b n i c k)
  caught_below k = below_if (record a { caught = k }) (record c { caught = k }) (fault_of s n a i) (fault_of s n c i) refl refl wide (λ f. record { long = le.long; registers = le.registers; result = le.result; caught = below_itself s.tables.now k; receiver = le.receiver })

  sent_below : (cs : List (Option ℕ)) (y : Table) → Sent s b cs n i c y → Sent s b cs n i a y
  sent_below cs y p = record {
    onward = all_from (λ q. Arrives s.tables.now y q (carried s b n i c)) (λ q. Arrives s.tables.now y q (carried s b n i a)) (onward_by i (next_of n)) (λ q h. arrives_below s.tables.now l y q (carried s b n i a) (carried s b n i c) carried_below h) p.onward;
    caught = all_from (λ h. Arrives s.tables.now y h.0 (carried_to s b n i c h.1)) (λ h. Arrives s.tables.now y h.0 (carried_to s b n i a h.1)) (catches_by s.tables.now b i (region_of cs n)) (λ h k. arrives_below s.tables.now l y h.0 (carried_to s b n i a h.1) (carried_to s b n i c h.1) (caught_below h.1) k) p.caught;
  }

-- what a position sends arrives at each table that holds above
sent_in : (s : Setting) (l : IsLattice s.tables.now) (mono : IsMonotone s) (b : Body) (cs : List (Option ℕ)) (entry : Kinds) (n : ℕ) (i : Insn) (a : Kinds) (y : Table) → length a.registers ≡ b.registers → slice_get b.insns n ≡ Some i → Holds s b cs entry y
    → (o : Option Kinds) → place_at y n ≡ o → AtMost s.tables.now (Some a) o → Sent s b cs n i a y
sent_in s l mono b cs entry n i a y wide is h None e p = absurd p
sent_in s l mono b cs entry n i a y wide is h (Some c) e p = sent_below s l mono b n i a c p wide cs y (h.sent n i c is e)

-- ---- a visit

module _ (s : Setting) (b : Body) (cs : List (Option ℕ)) (entry : Kinds) (n : ℕ) (places : Table) (waits : List Bool) (rs : Table) where
  abbrev before : Flowing
  before = record { arrivals = record { places = places; waits = waits }; regions = rs }

  -- the position waits no more
  abbrev taken : Flowing
  taken = record { arrivals = record { places = places; waits = slice_set waits n false }; regions = rs }

  taken_stands : Stands b.registers before.arrivals → Stands b.registers taken.arrivals
  taken_stands st = record { wide = st.wide; flags = length-set waits n false ∙ st.flags }

  module _ (k : Keeps s b cs entry before) where
    -- nothing is sent where no form or no frame is
    nothing_sent : ((i : Insn) (a : Kinds) → slice_get b.insns n ≡ Some i → place_at places n ≡ Some a → ⊥) → Keeps s b cs entry taken
    nothing_sent none = record {
      stands = taken_stands k.stands;
      long = k.long;
      thrown = k.thrown;
      regions = k.regions;
      solved = λ l. record {
        begins = (k.solved l).begins;
        settles = (k.solved l).settles;
        done = λ m i a is at. elim (cases_eq m n) [
          | inl e ↦ absurd (none i a (subst (λ j. slice_get b.insns j ≡ Some i) e is) (subst (λ j. place_at places j ≡ Some a) e at))
          | inr e ↦ elim ((k.solved l).done m i a is at) [ inr d ↦ inr d | inl w ↦ inl (get_or-set_other waits n m false false e ∙ w) ]
        ];
      };
      least = k.least;
    }

    module _ (i : Insn) (a : Kinds) (is : slice_get b.insns n ≡ Some i) (at : place_at places n ≡ Some a) where
      after : Flowing
      after = followed s b cs n i a taken

      width : length a.registers ≡ b.registers
      width = k.stands.wide n a at

      follows : Follows s.tables.now b.registers b (Sent s b cs n i a) taken (followed s b cs n i a taken)
      follows = follows_form s b cs n i a taken (taken_stands k.stands) k.thrown k.regions width

      done_at : (l : IsLattice s.tables.now) (m : ℕ) (j : Insn) (c : Kinds) → slice_get b.insns m ≡ Some j → place_at (followed s b cs n i a taken).arrivals.places m ≡ Some c
          → Waits (followed s b cs n i a taken).arrivals.waits m ⊎ Sent s b cs m j c (followed s b cs n i a taken).arrivals.places
      done_at l m j c is' at' = elim (follows.grows.woken m) [
        | inr w ↦ inl w
        | inl same ↦ elim (cases_eq m n) [
          | inl e ↦
              let ej : Some i ≡ Some j = sym is ∙ subst (λ x. slice_get b.insns x ≡ Some j) e is' in
              let ec : Some a ≡ Some c = sym at ∙ subst (λ x. place_at places x ≡ Some c) e (sym same ∙ at') in
              inr (subst (λ x. Sent s b cs m x c (followed s b cs n i a taken).arrivals.places) (some_same i j ej) (subst (λ x. Sent s b cs m i x (followed s b cs n i a taken).arrivals.places) (some_same a c ec) (subst (λ x. Sent s b cs x i a (followed s b cs n i a taken).arrivals.places) (sym e) (follows.holds l (k.solved l).settles))))
          | inr e ↦ elim ((k.solved l).done m j c is' (sym same ∙ at')) [
            | inl w ↦ inl (follows.grows.kept m (get_or-set_other waits n m false false e ∙ w))
            | inr d ↦ inr (sent_on s l b cs m j c places (followed s b cs n i a taken).arrivals.places follows.grows.long (follows.up l) d)
          ]
        ]
      ]

      keeps_followed : Keeps s b cs entry (followed s b cs n i a taken)
      keeps_followed = record {
        stands = stands_on s.tables.now b.registers taken.arrivals (followed s b cs n i a taken).arrivals (taken_stands k.stands) follows.grows;
        long = follows.grows.long ∙ k.long;
        thrown = follows.thrown;
        regions = follows.long ∙ k.regions;
        solved = λ l. record {
          begins = arrives_on s.tables.now l places (followed s b cs n i a taken).arrivals.places 0 entry follows.grows.long (follows.up l) (k.solved l).begins;
          settles = follows.settles l (k.solved l).settles;
          done = done_at l;
        };
        least = λ l mono y h.
            let u = k.least l mono y h in
            follows.under l y (h.long ∙ sym k.long) (sent_in s l mono b cs entry n i a y width is h (place_at y n) refl (subst (λ x. AtMost s.tables.now x (place_at y n)) at (u.0 n))) u.0 u.1;
      }

    visit_cases : (i : Option Insn) (a : Option Kinds) → slice_get b.insns n ≡ i → place_at places n ≡ a → Keeps s b cs entry (visited_in s b cs n taken i a)
    visit_cases (Some i) (Some a) is at = keeps_followed i a is at
    visit_cases (Some i) None is at = nothing_sent (λ j c p q. let f : None ≡ Some c = sym at ∙ q in absurd (cc))
    visit_cases None (Some a) is at = nothing_sent (λ j c p q. let f : None ≡ Some j = sym is ∙ p in absurd (cc))
    visit_cases None None is at = nothing_sent (λ j c p q. let f : None ≡ Some j = sym is ∙ p in absurd (cc))

    falls_cases : (i : Option Insn) (a : Option Kinds) → slice_get b.insns n ≡ i → place_at places n ≡ a
        → weight s.tables.now b.registers (visited_in s b cs n taken i a).arrivals.places + count_of (visited_in s b cs n taken i a).arrivals.waits ≤ weight s.tables.now b.registers places + count_of (slice_set waits n false)
    falls_cases (Some i) (Some a) is at = (follows i a is at).grows.falls
    falls_cases (Some i) None is at = omega arith
    falls_cases None (Some a) is at = omega arith
    falls_cases None None is at = omega arith

    pub visited_falls : weight s.tables.now b.registers (visited s b cs n taken).arrivals.places + count_of (visited s b cs n taken).arrivals.waits ≤ weight s.tables.now b.registers places + count_of (slice_set waits n false)
    visited_falls = falls_cases (slice_get b.insns n) (place_at places n) refl refl

    pub keeps_visited : Keeps s b cs entry (visited s b cs n taken)
    keeps_visited = visit_cases (slice_get b.insns n) (place_at places n) refl refl

-- ---- the beginning

nothing_at : {X : Type 0} (n k : ℕ) (a : X) → slice_index_or (replicate n None) k None ≡ Some a → ⊥
nothing_at zero k a e = absurd (cc)
nothing_at (suc n) zero a e = absurd (cc)
nothing_at (suc n) (suc k) a e = nothing_at n k a e

none_at : {X : Type 0} (n k : ℕ) → slice_index_or (replicate {A = Option X} n None) k None ≡ None
none_at zero k = refl
none_at (suc n) zero = refl
none_at (suc n) (suc k) = none_at n k

module _ (s : Setting) (b : Body) (cs : List (Option ℕ)) (entry : Kinds) (width : length entry.registers ≡ b.registers) where
  stands_first : Stands b.registers (unreached (length b.insns))
  stands_first = record {
    wide = λ n a e. absurd (nothing_at (length b.insns) n a e);
    flags = length-replicate (length b.insns) false ∙ sym (length-replicate (length b.insns) None);
  }

  first : Reaches s.tables.now b.registers (λ y. Arrives s.tables.now y 0 entry) (unreached (length b.insns)) (arrived s.tables.now 0 entry (unreached (length b.insns)))
  first = arrived_reaches s.tables.now b.registers 0 entry (unreached (length b.insns)) stands_first width

  under_all : (y : Table) → IsUnder s.tables.now (unreached (length b.insns)).places y
  under_all y n = subst (λ x. AtMost s.tables.now x (place_at y n)) (sym (none_at (length b.insns) n)) tt

  pub keeps_started : Keeps s b cs entry (started s.tables.now b entry)
  keeps_started = record {
    stands = stands_on s.tables.now b.registers (unreached (length b.insns)) (arrived s.tables.now 0 entry (unreached (length b.insns))) stands_first first.grows;
    long = first.grows.long ∙ length-replicate (length b.insns) None;
    thrown = record { wide = λ n a e. absurd (nothing_at (length b.regions) n a e); thrown = λ n a e. absurd (nothing_at (length b.regions) n a e) };
    regions = length-replicate (length b.regions) None;
    solved = λ l. record {
      begins = first.holds l;
      settles = record { each = λ r g a e p. absurd (nothing_at (length b.regions) r a p) };
      done = λ n i a is at. elim (first.grows.woken n) [ inr w ↦ inl w | inl same ↦ absurd (nothing_at (length b.insns) n a (sym same ∙ at)) ];
    };
    least = λ l mono y h. (first.under l y (h.long ∙ sym (length-replicate (length b.insns) None)) h.begins (under_all y), record { each = λ r g a e p. absurd (nothing_at (length b.regions) r a p) });
  }

-- ---- the end

pub holds_at_end : (s : Setting) (b : Body) (cs : List (Option ℕ)) (entry : Kinds) (f : Flowing) → Keeps s b cs entry f → ((n : ℕ) → Waits f.arrivals.waits n → ⊥) → IsLattice s.tables.now → Holds s b cs entry f.arrivals.places
holds_at_end s b cs entry f k none l = record {
  long = k.long;
  wide = k.stands.wide;
  begins = (k.solved l).begins;
  sent = λ n i a is at. elim ((k.solved l).done n i a is at) [ inr d ↦ d | inl w ↦ absurd (none n w) ];
}

module _ (s : Setting) (b : Body) (cs : List (Option ℕ)) (entry : Kinds) (fits : length b.insns ≤ greatest) (cover : IsCovering b cs) where
  next_is : (n : ℕ) (i : Insn) → slice_get b.insns n ≡ Some i → next_of n ≡ n + 1
  next_is n i is = let lt = slice_get_within b.insns n i is in omega (arith, lt, fits)

  pub flow_from : (y : Table) → Holds s b cs entry y → IsFlow s b entry y
  flow_from y h = record {
    long = h.long;
    wide = h.wide;
    begins = h.begins;
    onward = λ n i a is at. subst (λ q. All (λ q. Arrives s.tables.now y q (carried s b n i a)) (onward_by i q)) (next_is n i is) (h.sent n i a is at).onward;
    caught = λ n i a is at. subst (λ r. All (λ h. Arrives s.tables.now y h.0 (carried_to s b n i a h.1)) (catches_by s.tables.now b i r)) (cover n (slice_get_within b.insns n i is)) (h.sent n i a is at).caught;
  }

  pub holds_from : (y : Table) → IsFlow s b entry y → Holds s b cs entry y
  holds_from y h = record {
    long = h.long;
    wide = h.wide;
    begins = h.begins;
    sent = λ n i a is at. record {
      onward = subst (λ q. All (λ q. Arrives s.tables.now y q (carried s b n i a)) (onward_by i q)) (sym (next_is n i is)) (h.onward n i a is at);
      caught = subst (λ r. All (λ h. Arrives s.tables.now y h.0 (carried_to s b n i a h.1)) (catches_by s.tables.now b i r)) (sym (cover n (slice_get_within b.insns n i is))) (h.caught n i a is at);
    };
  }

  pub flow_at_end : (f : Flowing) → Keeps s b cs entry f → ((n : ℕ) → Waits f.arrivals.waits n → ⊥) → IsLattice s.tables.now → IsFlow s b entry f.arrivals.places
  flow_at_end f k none l = flow_from f.arrivals.places (holds_at_end s b cs entry f k none l)

  pub least_at_end : (f : Flowing) → Keeps s b cs entry f → ((n : ℕ) → Waits f.arrivals.waits n → ⊥) → IsLattice s.tables.now → IsMonotone s → IsLeastFlow s b entry f.arrivals.places
  least_at_end f k none l mono = record {
    flow = flow_at_end f k none l;
    least = λ y h. (k.least l mono y (holds_from y h)).0;
  }

-- ---- the loop

less_sum : (x y c d p r v : ℕ) → x + c ≤ y + d → suc r ≡ p → v + d ≡ r + c → x + v < y + p
less_sum x y c d p r v g e h = omega arith

pub record Solves (s : Setting) (b : Body) (cs : List (Option ℕ)) (entry : Kinds) (f : Flowing) (queue : List ℕ) : Type 0 where
  pub keeps : Keeps s b cs entry f
  pub queued : (n : ℕ) → Waits f.arrivals.waits n → Contains queue n

pub solves_started : (s : Setting) (b : Body) (cs : List (Option ℕ)) (entry : Kinds) (f : Flowing) (queue : List ℕ) → length entry.registers ≡ b.registers → f ≡ started s.tables.now b entry → Queues (unreached (length b.insns)).waits f.arrivals.waits [] queue → Solves s b cs entry f queue
solves_started s b cs entry f queue width e q = record {
  keeps = subst (Keeps s b cs entry) (sym e) (keeps_started s b cs entry width);
  queued = λ n w. elim (q.queued n w) [ inr c ↦ c | inl x ↦ absurd (unmarked_at (length b.insns) n x) ];
}
  where
    unmarked_at : (n k : ℕ) → Waits (replicate n false) k → ⊥
    unmarked_at zero k e = absurd (cc)
    unmarked_at (suc n) zero e = absurd (cc)
    unmarked_at (suc n) (suc k) e = unmarked_at n k e

module _ (s : Setting) (b : Body) (cs : List (Option ℕ)) (entry : Kinds) (n : ℕ) (places : Table) (waits waits' : List Bool) (rs : Table) (f : Flowing) (q q' q'' : List ℕ)
    (k : Solves s b cs entry (record { arrivals = record { places = places; waits = waits }; regions = rs }) q)
    (popped : IsPermutation q (n ∷ q')) (is_waits : waits' ≡ slice_set waits n false)
    (is_visited : f ≡ visited s b cs n (record { arrivals = record { places = places; waits = waits' }; regions = rs }))
    (queues : Queues waits' f.arrivals.waits q' q'') where
  is_taken : f ≡ visited s b cs n (record { arrivals = record { places = places; waits = slice_set waits n false }; regions = rs })
  is_taken = is_visited ∙ ap (λ w. visited s b cs n (record { arrivals = record { places = places; waits = w }; regions = rs })) is_waits

  pub solves_on : Solves s b cs entry f q''
  solves_on = record {
    keeps = subst (Keeps s b cs entry) (sym is_taken) (keeps_visited s b cs entry n places waits rs k.keeps);
    queued = λ m w. elim (queues.queued m w) [ inr c ↦ c | inl x ↦ queues.kept m (taken_out waits q q' n popped k.queued m (subst (λ w. Waits w m) is_waits x)) ];
  }

  pub solves_less : weight s.tables.now b.registers f.arrivals.places + length q'' < weight s.tables.now b.registers places + length q
  solves_less =
      let g : weight s.tables.now b.registers f.arrivals.places + count_of f.arrivals.waits ≤ weight s.tables.now b.registers places + count_of waits' = subst (λ x. weight s.tables.now b.registers x.arrivals.places + count_of x.arrivals.waits ≤ weight s.tables.now b.registers places + count_of waits') (sym is_taken)
      (subst (λ w. weight s.tables.now b.registers (visited s b cs n (record { arrivals = record { places = places; waits = slice_set waits n false }; regions = rs })).arrivals.places + count_of (visited s b cs n (record { arrivals = record { places = places; waits = slice_set waits n false }; regions = rs })).arrivals.waits ≤ weight s.tables.now b.registers places + count_of w) (sym is_waits) (visited_falls s b cs entry n places waits rs k.keeps)) in
      let p : length (n ∷ q') ≡ length q = length_permutation q (n ∷ q') popped in
      let c = queues.counts in
      less_sum (weight s.tables.now b.registers f.arrivals.places) (weight s.tables.now b.registers places) (count_of f.arrivals.waits) (count_of waits') (length q) (length q') (length q'') g p c
