-- From the least flow to the least typing, or to none.
use Rattle.std.proofs.Common.{◌≡◌, ℕ, zero, suc, ◌<◌, ◌≤◌, min, List, [], ◌∷◌, length, Option, Some, None, refl, sym, ap, ◌∙◌, subst, arith}
use Rattle.std.specs.Prelude.{All, slice_get}
use Rattle.std.proofs.lemmas.Option.{slice_get_within}
use Rattle.insn_set.specs.declared.form.Insn.{Insn}
use Rattle.program_model.specs.declared.body.Body.{Body}
use Rattle.verify.specs.declared.frames.Frame.{Frame}
use Rattle.verify.specs.declared.setting.Setting.{Setting}
use Rattle.verify.specs.Faults.{fault_of, fault_in, state_at, fault_at, NoneBreaks}
use Rattle.verify.specs.Flow.{greatest, form_after, place_at, kinds_in, places_of}
use Rattle.verify.specs.Frames.{Kinds}
use Rattle.verify.specs.Meeting.{IsMeeting}
use Rattle.verify.specs.Typings.{AtMost, Table, IsUnder, Arrives, onward, catches, unless_fault, IsTyping, IsLeastTyping, IsFlow, IsLeastFlow, IsLattice, IsCovering, IsMonotone, break_in, break_at, IsIllTyped, IsShort}
use Rattle.verify.proofs.Leaving.{monotone}
use Rattle.verify.proofs.Ranks.{lattice_of}

-- a typing is a flow
pub flow_of : (s : Setting) (b : Body) (entry : Kinds) (y : Table) → IsTyping s b entry y → IsFlow s b entry y
flow_of s b entry y h = record {
  long = h.long;
  wide = h.wide;
  begins = h.begins;
  onward = λ n i a is at. subst (λ o. All (λ q. Arrives s.tables.now y q (unless_fault o b (form_after s n i a))) (onward i n)) (sym (h.reads n i a is at)) (h.onward n i a is at);
  caught = λ n i a is at. subst (λ o. All (λ k. Arrives s.tables.now y k.0 (unless_fault o b (record a { caught = k.1 }))) (catches s.tables.now b i n)) (sym (h.reads n i a is at)) (h.caught n i a is at);
}

-- a flow that breaks nowhere is a typing
pub typing_of : (s : Setting) (b : Body) (entry : Kinds) (y : Table) → IsFlow s b entry y → ((n : ℕ) (i : Insn) (a : Kinds) → slice_get b.insns n ≡ Some i → place_at y n ≡ Some a → fault_of s n a i ≡ None) → IsTyping s b entry y
typing_of s b entry y h reads = record {
  long = h.long;
  wide = h.wide;
  begins = h.begins;
  onward = λ n i a is at. subst (λ o. All (λ q. Arrives s.tables.now y q (unless_fault o b (form_after s n i a))) (onward i n)) (reads n i a is at) (h.onward n i a is at);
  caught = λ n i a is at. subst (λ o. All (λ k. Arrives s.tables.now y k.0 (unless_fault o b (record a { caught = k.1 }))) (catches s.tables.now b i n)) (reads n i a is at) (h.caught n i a is at);
  reads = reads;
}

-- ---- a table of frames

place_is : (fs : List (Option Frame)) (n : ℕ) → place_at (places_of fs) n ≡ kinds_in (state_at fs n)
place_is [] n = refl
place_is (f ∷ fs) zero = refl
place_is (f ∷ fs) (suc n) = place_is fs n

breaks_in : (s : Setting) (n : ℕ) (i : Option Insn) (f : Option Frame) → break_in s n i (kinds_in f) ≡ fault_in s n i f
breaks_in s n None None = refl
breaks_in s n None (Some f) = refl
breaks_in s n (Some i) None = refl
breaks_in s n (Some i) (Some f) = refl

pub breaks_at : (s : Setting) (b : Body) (fs : List (Option Frame)) (n : ℕ) → break_at s b (places_of fs) n ≡ fault_at s b.insns fs n
breaks_at s b fs n = ap (break_in s n (slice_get b.insns n)) (place_is fs n) ∙ breaks_in s n (slice_get b.insns n) (state_at fs n)

reads_from : (s : Setting) (b : Body) (x : Table) → ((n : ℕ) → n < length b.insns → break_at s b x n ≡ None) → (n : ℕ) (i : Insn) (a : Kinds) → slice_get b.insns n ≡ Some i → place_at x n ≡ Some a → fault_of s n a i ≡ None
reads_from s b x none n i a is at =
    let e : break_at s b x n ≡ None = none n (slice_get_within b.insns n i is) in
    subst (λ o. break_in s n (Some i) o ≡ None) at (subst (λ o. break_in s n o (place_at x n) ≡ None) is e)

-- the least flow breaks nowhere
pub least_typing : (s : Setting) (b : Body) (entry : Kinds) (fs : List (Option Frame)) (is : List Insn) (count : ℕ) → is ≡ b.insns → length b.insns ≤ count → IsLeastFlow s b entry (places_of fs) → NoneBreaks s is fs count → IsLeastTyping s b entry (places_of fs)
least_typing s b entry fs is count same le h none = record {
  typing = typing_of s b entry (places_of fs) h.flow (reads_from s b (places_of fs) (λ n lt. breaks_at s b fs n ∙ subst (λ l. fault_at s l fs n ≡ None) same (none n (omega (arith, lt, le)))));
  least = λ y t. h.least y (flow_of s b entry y t);
}

-- what is under a typing breaks nowhere
no_break : (s : Setting) (mono : IsMonotone s) (b : Body) (entry : Kinds) (x y : Table) (n r : ℕ) → IsUnder s.tables.now x y → IsTyping s b entry y → (i : Option Insn) (a c : Option Kinds) → slice_get b.insns n ≡ i → place_at y n ≡ c → AtMost s.tables.now a c → break_in s n i a ≡ Some r → ⊥
no_break s mono b entry x y n r u h None a c is at le e = absurd (cc)
no_break s mono b entry x y n r u h (Some i) None c is at le e = absurd (cc)
no_break s mono b entry x y n r u h (Some i) (Some a) None is at le e = absurd le
no_break s mono b entry x y n r u h (Some i) (Some a) (Some c) is at le e = let f : None ≡ Some r = sym (mono.reads n i a c le (h.reads n i c is at)) ∙ e in absurd (cc)

-- the least flow breaks somewhere
pub ill_typed : (s : Setting) (mono : IsMonotone s) (b : Body) (entry : Kinds) (fs : List (Option Frame)) (is : List Insn) (n r : ℕ) → is ≡ b.insns → IsLeastFlow s b entry (places_of fs) → fault_at s is fs n ≡ Some r → NoneBreaks s is fs n → IsIllTyped s b entry n r
ill_typed s mono b entry fs is n r same h e none =
    let e' : break_at s b (places_of fs) n ≡ Some r = breaks_at s b fs n ∙ subst (λ l. fault_at s l fs n ≡ Some r) same e in
    record {
      table = places_of fs;
      least = h;
      breaks = e';
      first = λ k lt. breaks_at s b fs k ∙ subst (λ l. fault_at s l fs k ≡ None) same (none k lt);
      none = λ y t. no_break s mono b entry (places_of fs) y n r (h.least y (flow_of s b entry y t)) t (slice_get b.insns n) (place_at (places_of fs) n) (place_at y n) refl refl (h.least y (flow_of s b entry y t) n) e';
    }

-- as the code finds it
pub judged : (s : Setting) (b : Body) (cs cs' : List (Option ℕ)) (entry begun : Kinds) (fs fs' : List (Option Frame)) (is is' : List Insn) (len count : ℕ) → cs' ≡ cs → entry ≡ begun → fs' ≡ fs → is' ≡ is → is ≡ b.insns → len ≡ length is → count ≡ min len greatest
    → (length b.regions ≤ greatest → IsCovering b cs) → (IsLattice s.tables.now → IsMonotone s → length b.insns ≤ greatest → IsCovering b cs' → IsLeastFlow s b entry (places_of fs)) → NoneBreaks s is' fs' count → IsMeeting s.tables.now → IsShort b → IsLeastTyping s b begun (places_of fs)
judged s b cs cs' entry begun fs fs' is is' len count ec ee ef ei ej el en cover least none m x =
    let c : IsCovering b cs' = subst (IsCovering b) (sym ec) (cover x.regions) in
    let h : IsLeastFlow s b begun (places_of fs) = subst (λ k. IsLeastFlow s b k (places_of fs)) ee (least (lattice_of s.tables.now m) (monotone s m) x.insns c) in
    let l : len ≡ length b.insns = el ∙ ap length ej in
    let le : length b.insns ≤ count = omega (arith, l, en, x.insns) in
    least_typing s b begun fs is' count (ei ∙ ej) le h (subst (λ v. NoneBreaks s is' v count) ef none)

pub refused : (s : Setting) (b : Body) (cs cs' : List (Option ℕ)) (entry begun : Kinds) (fs fs' : List (Option Frame)) (is is' : List Insn) (n r : ℕ) → cs' ≡ cs → entry ≡ begun → fs' ≡ fs → is' ≡ is → is ≡ b.insns
    → (length b.regions ≤ greatest → IsCovering b cs) → (IsLattice s.tables.now → IsMonotone s → length b.insns ≤ greatest → IsCovering b cs' → IsLeastFlow s b entry (places_of fs)) → fault_at s is' fs' n ≡ Some r → NoneBreaks s is' fs' n → IsMeeting s.tables.now → IsShort b → IsIllTyped s b begun n r
refused s b cs cs' entry begun fs fs' is is' n r ec ee ef ei ej cover least e none m x =
    let c : IsCovering b cs' = subst (IsCovering b) (sym ec) (cover x.regions) in
    let h : IsLeastFlow s b begun (places_of fs) = subst (λ k. IsLeastFlow s b k (places_of fs)) ee (least (lattice_of s.tables.now m) (monotone s m) x.insns c) in
    ill_typed s (monotone s m) b begun fs is' n r (ei ∙ ej) h (subst (λ v. fault_at s is' v n ≡ Some r) ef e) (subst (λ v. NoneBreaks s is' v n) ef none)
