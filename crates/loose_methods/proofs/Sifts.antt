-- What each kind of call leaves of the marked methods.
use Rattle.std.proofs.Common.{◌≡◌, inl, inr, ℕ, zero, suc, Bool, true, false, true≢false, List, [], ◌∷◌, ◌++◌, length, Option, Some, None, refl, sym, ap, ◌∙◌, subst}
use Rattle.std.specs.Prelude.{◌&&◌, ◌||◌, is_some, not, replicate, slice_get, slice_index_or, slice_set, cond, if◌then◌else◌}
use Rattle.std.specs.List.{list_any, list_all}
use Rattle.insn_set.specs.declared.ops.InvokeKind.TheVariants as call
use Rattle.std.proofs.lemmas.List.Folds.{list_any-append}
use Rattle.lemmas.proofs.Bools.{and_left, and_right, and_both, or_left, or_right, or_none, clash, untrue, not_true, none_or}
use Rattle.lemmas.proofs.Options.{some_same}
use Rattle.program_model.specs.Lookups.{class_place, method_at}
use Rattle.program_model.specs.ProgramRules.{is_well_formed}
use Rattle.program_model.specs.declared.pass.Outside.{Outside}
use Rattle.program_model.specs.declared.pools.MethodName.{MethodName}
use Rattle.program_model.specs.declared.program.MethodAt.{MethodAt}
use Rattle.program_model.specs.declared.program.Program.{Program}
use Rattle.class_defs.specs.Finding.{Search, Nothing, Clash, Finds, first_among, one_or_none, is_037, candidates, finds_static, finds_super, finds_super_of, finds_super_037, finds_above, finds_among, resolves_method, search_of}
use Rattle.class_defs.specs.Members.{has_code, own_method}
use Rattle.class_defs.specs.Places.{chain_from, chain_of, super_place}
use Rattle.class_defs.proofs.Positions.{number_of, number_test}
use Rattle.hierarchy.specs.Ranks.{IsRanked}
use Rattle.hierarchy.specs.Shapes.{IsResolved}
use Rattle.hierarchy.specs.declared.build.Hierarchy.{Hierarchy}
use Rattle.receivers.specs.Receiving.{interface_at}
use Rattle.facts.specs.declared.facts.Facts.{Facts}
use Rattle.insn_set.specs.declared.form.Insn.{Insn}
use Rattle.insn_set.specs.declared.form.Insn.TheVariants as insn
use Rattle.insn_set.specs.declared.ops.InvokeKind.{InvokeKind}
use Rattle.loose_methods.specs.declared.calls.Marks.{Marks}
use Rattle.loose_methods.specs.Loose.{allows, allows_by, has_receiver, number_at, number_found, is_this, is_it, names_it, named_by, resolves_to, is_subclass, found_by, is_nothing, super_candidates, may_find, misses, may_leave, concerns, is_plain_call}
use Rattle.loose_methods.specs.Marking.{is_on, IsCandidate}
use Rattle.loose_methods.specs.Sifting.{number_searched, is_clear, same_some, HasCandidates, Keeps, IsSifted, Sifts, allows_so, allows_entry}
use Rattle.loose_methods.proofs.Bars.{keeps_all, keeps_one, keeps_both, keeps_same, kept_on, candidates_kept}
use Rattle.loose_methods.proofs.Found.{here, coded, method_here, other_than, static_is, static_same, so_static, resolves_static}
use Rattle.loose_methods.proofs.Given.{Has, among_has, clash_one, super_given, no_method, all_methods, has_right}
use Rattle.loose_methods.proofs.Marks.{set_from, none_on}

-- ---- the state

-- nothing more is looked at for good
pub sifts : (p : Program) (o : Outside) (test : ℕ → Bool) (old new : Marks) → IsSifted p o old → Keeps test old.loose.items new.loose.items → new.virtual_calls ≡ old.virtual_calls → new.interface_calls ≡ old.interface_calls → Sifts p o test old new
sifts p o test old new s k v i = record {
  keeps = k;
  sifted = record {
    candidates = candidates_kept p o test old.loose.items new.loose.items k s.candidates;
    virtuals = λ n called q e f g. s.virtuals n called q e (ap (λ x. is_on x.items called) (sym v) ∙ f) (kept_on test old.loose.items new.loose.items n k g).0;
    interfaces = λ n called q e f g. s.interfaces n called q e (ap (λ x. is_on x.items called) (sym i) ∙ f) (kept_on test old.loose.items new.loose.items n k g).0;
  };
}

pub sifts_then : (p : Program) (o : Outside) (first second both : ℕ → Bool) (old mid new : Marks) → IsSifted p o old → Sifts p o first old mid → Sifts p o second mid new
    → ((n : ℕ) → is_on old.loose.items n ≡ true → (first n && second n) ≡ both n) → Sifts p o both old new
sifts_then p o first second both old mid new s a b h = record { sifted = b.sifted; keeps = keeps_both first second both old.loose.items mid.loose.items new.loose.items a.keeps b.keeps h }

pub sifts_same : (p : Program) (o : Outside) (s t : ℕ → Bool) (old new : Marks) → Sifts p o s old new → ((n : ℕ) → is_on old.loose.items n ≡ true → s n ≡ t n) → Sifts p o t old new
sifts_same p o s t old new a h = record { sifted = a.sifted; keeps = keeps_same s t old.loose.items new.loose.items a.keeps h }

pub sifts_none : (p : Program) (o : Outside) (test : ℕ → Bool) (old : Marks) → IsSifted p o old → ((n : ℕ) → is_on old.loose.items n ≡ true → test n ≡ true) → Sifts p o test old old
sifts_none p o test old s h = record { sifted = s; keeps = keeps_all old.loose.items old.loose.items test h refl }

-- the mark of a number is taken
pub bar_sifts : (p : Program) (o : Outside) (number : Option ℕ) (old new : Marks) → IsSifted p o old → ((n : ℕ) → is_on new.loose.items n ≡ (is_on old.loose.items n && not (is_this n number))) → length new.loose.items ≡ length old.loose.items
    → new ≡ record old { loose = new.loose } → Sifts p o (λ n. not (is_this n number)) old new
bar_sifts p o number old new s are long rest = sifts p o (λ n. not (is_this n number)) old new s (keeps_one old.loose.items new.loose.items (λ n. not (is_this n number)) number are long (λ n m. refl))
    (ap (λ (x : Marks). x.virtual_calls) rest) (ap (λ (x : Marks). x.interface_calls) rest)

-- nothing is looked at yet
pub sifted_first : (p : Program) (o : Outside) (m : Marks) (count : ℕ) → HasCandidates p o m.loose.items → m.virtual_calls.items ≡ replicate count false → m.interface_calls.items ≡ replicate count false → IsSifted p o m
sifted_first p o m count c v i = record {
  candidates = c;
  virtuals = λ n called q e f g. absurd (true≢false (sym f ∙ (ap (λ x. is_on x called) v ∙ none_on count called)));
  interfaces = λ n called q e f g. absurd (true≢false (sym f ∙ (ap (λ x. is_on x called) i ∙ none_on count called)));
}

-- nothing is marked
pub none_kept : (test : ℕ → Bool) (marks : List Bool) → list_any (λ mark. mark) marks ≡ false → Keeps test marks marks
none_kept test marks e = keeps_all marks marks test (λ n m. clash (list_any (λ mark. mark) marks) (some marks n m) e) refl
  where
    some : (ms : List Bool) (n : ℕ) → is_on ms n ≡ true → list_any (λ mark. mark) ms ≡ true
    some [] n f = f
    some (m ∷ ms) zero f = or_left m (list_any (λ mark. mark) ms) f
    some (m ∷ ms) (suc n) f = or_right m (list_any (λ mark. mark) ms) (some ms n f)

-- a call that is safe or isn't, by its instruction
-- an instruction that is no call
pub others_allow : (p : Program) (facts : Facts) (admitted : List Bool) (n caller method position : ℕ) (i : Insn) → ((kind : InvokeKind) (called : ℕ) (args : List ℕ) → i ≡ insn.Invoke kind called args → ⊥) → allows p facts admitted n caller method position i ≡ true
others_allow p facts admitted n caller method position (insn.Invoke kind called args) h = absurd (h kind called args refl)
others_allow p facts admitted n caller method position insn.Nop h = refl
others_allow p facts admitted n caller method position i h = refl

pub call_allows : (p : Program) (facts : Facts) (admitted : List Bool) (n caller method position : ℕ) (kind : InvokeKind) (called : ℕ) (args : List ℕ) (o : Option MethodName) (safe : Bool)
    → safe ≡ (slice_index_or admitted method false && has_receiver facts method position kind args) → allows_entry p caller kind called o safe n ≡ allows_by p facts admitted n caller method position kind called args o
call_allows p facts admitted n caller method position kind called args None safe e = refl
call_allows p facts admitted n caller method position kind called args (Some q) safe e =
    ap (λ b. not (concerns p n caller kind called q) || (b && is_plain_call p n caller kind called q)) e
    ∙ by (concerns p n caller kind called q) (slice_index_or admitted method false) (is_plain_call p n caller kind called q) (has_receiver facts method position kind args)
  where
    by : (c a l r : Bool) → (not c || ((a && r) && l)) ≡ (not c || (a && l && r))
    by false a l r = refl
    by true true true true = refl
    by true true true false = refl
    by true true false true = refl
    by true true false false = refl
    by true false l r = refl

-- the virtual calls of a number are looked at
pub sifts_virtual : (p : Program) (o : Outside) (called : ℕ) (q : MethodName) (old new : Marks) → slice_get p.methods called ≡ Some q → IsSifted p o old → Keeps (λ n. is_clear p n called q) old.loose.items new.loose.items
    → new.virtual_calls.items ≡ slice_set old.virtual_calls.items called true → new.interface_calls ≡ old.interface_calls → Sifts p o (λ n. is_clear p n called q) old new
sifts_virtual p o called q old new entry s k v i = record {
  keeps = k;
  sifted = record {
    candidates = candidates_kept p o (λ n. is_clear p n called q) old.loose.items new.loose.items k s.candidates;
    virtuals = λ n other r e f g.
        let on = kept_on (λ x. is_clear p x called q) old.loose.items new.loose.items n k g in
        elim (set_from old.virtual_calls.items called other (ap (λ x. is_on x other) (sym v) ∙ f)) [
          | inl was ↦ s.virtuals n other r e was on.0
          | inr same ↦ (let names : q ≡ r = some_same q r (sym entry ∙ ap (slice_get p.methods) same ∙ e) in ap (λ x. is_clear p n x r) (sym same) ∙ ap (is_clear p n called) (sym names) ∙ on.1)
        ];
    interfaces = λ n other r e f g. s.interfaces n other r e (ap (λ x. is_on x.items other) (sym i) ∙ f) (kept_on (λ x. is_clear p x called q) old.loose.items new.loose.items n k g).0;
  };
}

-- and the interface calls
pub sifts_interface : (p : Program) (o : Outside) (called : ℕ) (q : MethodName) (old new : Marks) → slice_get p.methods called ≡ Some q → IsSifted p o old → Keeps (λ n. not (concerns p n 0 call.Interface called q)) old.loose.items new.loose.items
    → new.interface_calls.items ≡ slice_set old.interface_calls.items called true → new.virtual_calls ≡ old.virtual_calls → Sifts p o (λ n. not (concerns p n 0 call.Interface called q)) old new
sifts_interface p o called q old new entry s k v i = record {
  keeps = k;
  sifted = record {
    candidates = candidates_kept p o (λ n. not (concerns p n 0 call.Interface called q)) old.loose.items new.loose.items k s.candidates;
    virtuals = λ n other r e f g. s.virtuals n other r e (ap (λ x. is_on x.items other) (sym i) ∙ f) (kept_on (λ x. not (concerns p x 0 call.Interface called q)) old.loose.items new.loose.items n k g).0;
    interfaces = λ n other r e f g.
        let on = kept_on (λ x. not (concerns p x 0 call.Interface called q)) old.loose.items new.loose.items n k g in
        elim (set_from old.interface_calls.items called other (ap (λ x. is_on x other) (sym v) ∙ f)) [
          | inl was ↦ s.interfaces n other r e was on.0
          | inr same ↦ (let names : q ≡ r = some_same q r (sym entry ∙ ap (slice_get p.methods) same ∙ e) in
              ap (λ x. concerns p n 0 call.Interface x r) (sym same) ∙ ap (concerns p n 0 call.Interface called) (sym names) ∙ not_true (concerns p n 0 call.Interface called q) on.1)
        ];
  };
}

-- ---- interface calls

pub interface_allows : (p : Program) (caller called : ℕ) (q : MethodName) (safe : Bool) (n : ℕ) → not (concerns p n 0 call.Interface called q) ≡ allows_so p caller call.Interface called q safe n
interface_allows p caller called q safe n = sym (ap (λ b. not (concerns p n caller call.Interface called q) || (safe && b)) unplain ∙ none safe (concerns p n caller call.Interface called q))
  where
    none : (a b : Bool) → (not b || (a && false)) ≡ not b
    none true true = refl
    none true false = refl
    none false true = refl
    none false false = refl

    leaves : (r s d c a : Bool) → (r && s && not ((d || true) || c) && a) ≡ false
    leaves true true true c a = refl
    leaves true true false c a = refl
    leaves true false d c a = refl
    leaves false s d c a = refl

    unplain : is_plain_call p n caller call.Interface called q ≡ false
    unplain = leaves (resolves_to p n called) (is_subclass p n q) (not (is_some (class_place p q.class))) (list_any (λ at. not (has_code (method_at p at))) (may_find p caller call.Interface called q)) (list_all (is_it p n) (may_find p caller call.Interface called q))

-- ---- virtual calls

pub virtual_allows : (p : Program) (caller called : ℕ) (q : MethodName) (safe : Bool) (n : ℕ) → (is_clear p n called q && (safe || not (names_it p n called))) ≡ allows_so p caller call.Virtual called q safe n
virtual_allows p caller called q safe n = by (concerns p n 0 call.Virtual called q) (is_plain_call p n 0 call.Virtual called q) (names_it p n called)
    (λ e. untrue (names_it p n called) (λ f. clash (concerns p n 0 call.Virtual called q) (or_left (names_it p n called) (list_any (is_it p n) (may_find p 0 call.Virtual called q)) f) e))
    (λ e. resolved_names (and_left (resolves_to p n called) (is_subclass p n q) (and_left (resolves_to p n called && is_subclass p n q) (not (may_leave p 0 call.Virtual called q)) (and_left (resolves_to p n called && is_subclass p n q && not (may_leave p 0 call.Virtual called q)) (list_all (is_it p n) (may_find p 0 call.Virtual called q)) e))))
  where
    resolved_names : resolves_to p n called ≡ true → names_it p n called ≡ true
    resolved_names e = here_by (resolves_method p called) e
      where
        here_by : (x : Option MethodAt) → is_this n (number_found p x) ≡ true → is_this n (named_by p called x) ≡ true
        here_by None f = absurd (true≢false (sym f))
        here_by (Some at) f = f

    by : (c l m : Bool) → (c ≡ false → m ≡ false) → (l ≡ true → m ≡ true) → ((not c || l) && (safe || not m)) ≡ (not c || (safe && l))
    by false l m f g = ap (λ x. safe || not x) (f refl) ∙ end safe
      where
        end : (a : Bool) → (a || true) ≡ true
        end true = refl
        end false = refl
    by true true m f g = ap (λ x. safe || not x) (g refl) ∙ end safe
      where
        end : (a : Bool) → (a || false) ≡ (a && true)
        end true = refl
        end false = refl
    by true false m f g = end safe
      where
        end : (a : Bool) → false ≡ (a && false)
        end true = refl
        end false = refl

-- ---- static and direct calls

module _ (p : Program) (n : ℕ) where
  pub one_found : (x : Option MethodAt) → list_any (is_it p n) (one_or_none x) ≡ is_this n (number_found p x)
  one_found None = refl
  one_found (Some at) = or_none (is_it p n at)

  pub static_allows : (caller called : ℕ) (q : MethodName) → (not (names_it p n called) && not (is_this n (number_found p (finds_static p called)))) ≡ allows_so p caller call.Static called q false n
  static_allows caller called q = sym (or_none (not (concerns p n caller call.Static called q)) ∙ ap (λ b. not (names_it p n called || b)) (one_found (finds_static p called)) ∙ by (names_it p n called) (is_this n (number_found p (finds_static p called))))
    where
      by : (a b : Bool) → not (a || b) ≡ (not a && not b)
      by true b = refl
      by false b = refl

module _ (p : Program) (h : Hierarchy) (wf : is_well_formed p ≡ true) (res : IsResolved p h) (o : Outside) (n : ℕ) (c : IsCandidate p o n) (called : ℕ) (q : MethodName) (entry : slice_get p.methods called ≡ Some q) where
  abbrev static : Option MethodAt
  static = finds_static p called

  abbrev s : Bool
  s = is_this n (number_found p static)

  abbrev names : Bool
  names = names_it p n called

  -- it is found along the superclasses, so the class that is named is the program's
  named_class : (at : MethodAt) → finds_static p called ≡ Some at → is_some (class_place p q.class) ≡ true
  named_class at e = by (class_place p q.class) refl
    where
      none : (k : ℕ) → first_among (own_method p q.name q.proto) (chain_from (super_place p) k None) ≡ None
      none zero = refl
      none (suc k) = refl

      by : (x : Option ℕ) → class_place p q.class ≡ x → is_some (class_place p q.class) ≡ true
      by None f =
          let gone : finds_static p called ≡ None = static_is p h wf res o n c called q entry ∙ ap (λ y. first_among (own_method p q.name q.proto) (chain_of p y)) f ∙ none (length p.classes) in
          absurd (cc)
      by (Some u) f = ap is_some f

  -- where it is known as static, the number that is named is the one that is found
  named_is : (at : MethodAt) → finds_static p called ≡ Some at → names ≡ is_this n (number_at p at)
  named_is at e = ap (λ x. is_this n (named_by p called x)) (resolves_static p h wf res o n c called q entry at e)

  split_false : (a l b : Bool) → a ≡ false → (a && not l && b) ≡ false
  split_false true l b e = absurd (true≢false e)
  split_false false l b e = refl

  -- a direct call is plain just where it finds it
  direct_plain : (caller : ℕ) → is_plain_call p n caller call.Direct called q ≡ s
  direct_plain caller = by static refl
    where
      found : List MethodAt
      found = may_find p caller call.Direct called q

      by : (x : Option MethodAt) → finds_static p called ≡ x → is_plain_call p n caller call.Direct called q ≡ s
      by None e = split_false (resolves_to p n called && is_subclass p n q) (may_leave p caller call.Direct called q) (list_all (is_it p n) found) (static_same p h wf res o n c called q entry ∙ ap (λ y. is_this n (number_found p y)) e) ∙ sym (ap (λ y. is_this n (number_found p y)) e)
      by (Some at) e = test (is_it p n at) refl
        where
          test : (b : Bool) → is_it p n at ≡ b → is_plain_call p n caller call.Direct called q ≡ s
          test false f = split_false (resolves_to p n called && is_subclass p n q) (may_leave p caller call.Direct called q) (list_all (is_it p n) found) (static_same p h wf res o n c called q entry ∙ ap (λ y. is_this n (number_found p y)) e ∙ f) ∙ sym (ap (λ y. is_this n (number_found p y)) e ∙ f)
          test true f =
              and_both (resolves_to p n called && is_subclass p n q && not (may_leave p caller call.Direct called q)) (list_all (is_it p n) found)
              (and_both (resolves_to p n called && is_subclass p n q) (not (may_leave p caller call.Direct called q)) (so_static p h wf res o n c called q entry (ap (λ y. is_this n (number_found p y)) e ∙ f)) (ap not (none_or (not (is_some (class_place p q.class)) || misses p caller call.Direct called q) (list_any (λ y. not (has_code (method_at p y))) found)
              (none_or (not (is_some (class_place p q.class))) (misses p caller call.Direct called q) (ap not (named_class at e)) (ap (λ y. not (is_some y)) e)) (ap (λ y. list_any (λ z. not (has_code (method_at p z))) (one_or_none y)) e ∙ code_there))))
              (ap (λ y. list_all (is_it p n) (one_or_none y)) e ∙ ap (λ b. b && true) f)
              ∙ sym (ap (λ y. is_this n (number_found p y)) e ∙ f)
            where
              code_there : list_any (λ z. not (has_code (method_at p z))) (at ∷ []) ≡ false
              code_there = ap (λ z. not (has_code (method_at p z)) || false) (here p h wf res o n c at f) ∙ ap (λ z. not (has_code z) || false) (method_here p h wf res o n c) ∙ ap (λ b. not b || false) (coded p h wf res o n c)

  direct_is : (caller : ℕ) (safe : Bool) → allows_so p caller call.Direct called q safe n ≡ (not (names || s) || (safe && s))
  direct_is caller safe = ap (λ b. not (names || b) || (safe && is_plain_call p n caller call.Direct called q)) (one_found p n static) ∙ ap (λ b. not (names || s) || (safe && b)) (direct_plain caller)

  -- what is found is named
  found_named : is_some (number_found p static) ≡ true → names ≡ s
  found_named e = by static refl e
    where
      by : (x : Option MethodAt) → finds_static p called ≡ x → is_some (number_found p x) ≡ true → names ≡ s
      by None f g = absurd (true≢false (sym g))
      by (Some at) f g = named_is at f ∙ sym (ap (λ y. is_this n (number_found p y)) f)

  same_itself : (x : Option ℕ) → same_some x x ≡ is_some x
  same_itself None = refl
  same_itself (Some k) = number_test k k refl

  same_number : (x y : Option ℕ) → same_some x y ≡ true → x ≡ y
  same_number None y e = absurd (true≢false (sym e))
  same_number (Some a) None e = absurd (true≢false (sym e))
  same_number (Some a) (Some b) e = ap (λ z. Some z) (number_of a b e)

  is_there : (x : Option ℕ) → is_this n x ≡ true → is_some x ≡ true
  is_there None e = e
  is_there (Some k) e = refl

  sameness : s ≡ true → same_some (number_found p static) (number_found p static) ≡ true
  sameness f = same_itself (number_found p static) ∙ is_there (number_found p static) f

  unsafe : (k b : Bool) → (k && b) ≡ false → b ≡ true → k ≡ false
  unsafe true b e f = absurd (true≢false (sym f ∙ e))
  unsafe false b e f = refl

  no_both : (k : Bool) → (k && false) ≡ false
  no_both true = refl
  no_both false = refl

  -- it stays where the call keeps what it finds
  pub direct_kept : (caller : ℕ) (safe : Bool) → (safe && same_some (number_found p static) (number_found p static)) ≡ true → allows_so p caller call.Direct called q safe n ≡ true
  direct_kept caller safe e =
      let f = and_left safe (same_some (number_found p static) (number_found p static)) e in
      let g = sym (same_itself (number_found p static)) ∙ and_right safe (same_some (number_found p static) (number_found p static)) e in
      direct_is caller safe ∙ ap (λ b. not (b || s) || (safe && s)) (found_named g) ∙ ap (λ b. not (s || s) || (b && s)) f ∙ end s
    where
      end : (b : Bool) → (not (b || b) || (true && b)) ≡ true
      end true = refl
      end false = refl

  barred_by : (m b k : Bool) → (b ≡ true → k ≡ false) → (not m && not b) ≡ (not (m || b) || (k && b))
  barred_by true true k f = sym (ap (λ x. x && true) (f refl))
  barred_by true false k f = sym (no_both k)
  barred_by false true k f = sym (ap (λ x. x && true) (f refl))
  barred_by false false k f = refl

  pub direct_barred : (caller : ℕ) (safe : Bool) → (safe && same_some (number_found p static) (number_found p static)) ≡ false → (not names && not s) ≡ allows_so p caller call.Direct called q safe n
  direct_barred caller safe e = barred_by names s safe (λ f. unsafe safe (same_some (number_found p static) (number_found p static)) e (sameness f)) ∙ sym (direct_is caller safe)

  -- ---- super calls

  module _ (caller : ℕ) where
    abbrev search : Search
    search = finds_super p caller called

    abbrev f : Bool
    f = is_this n (number_searched p search)

    rank : IsRanked p
    rank = res.of.ranked

    none_above : list_any (is_it p n) (super_candidates p q (class_place p q.class)) ≡ false
    none_above = by (class_place p q.class)
      where
        by_test : (u : ℕ) (b : Bool) → list_any (is_it p n) (if b then candidates p (u ∷ []) q.name q.proto else []) ≡ false
        by_test u true = no_method (is_it p n) (candidates p (u ∷ []) q.name q.proto) (λ x g. other_than p h wf res o n c x (super_given p rank q.name q.proto u x g).interface)
        by_test u false = refl

        by : (x : Option ℕ) → list_any (is_it p n) (super_candidates p q x) ≡ false
        by None = refl
        by (Some u) = by_test u (is_037 p.version && interface_at p u)

    found_is : list_any (is_it p n) (may_find p caller call.Super called q) ≡ f
    found_is = list_any-append (is_it p n) (found_by search) (super_candidates p q (class_place p q.class)) ∙ ap (λ b. list_any (is_it p n) (found_by search) || b) none_above ∙ or_none (list_any (is_it p n) (found_by search)) ∙ by search
      where
        by : (x : Search) → list_any (is_it p n) (found_by x) ≡ is_this n (number_searched p x)
        by Nothing = refl
        by Clash = refl
        by (Finds at) = or_none (is_it p n at)

    -- what is found is that of no interface
    none_there : (at : MethodAt) → finds_super p caller called ≡ Finds at → is_it p n at ≡ true → super_candidates p q (class_place p q.class) ≡ []
    none_there at e g = by (class_place p q.class) refl
      where
        searched : finds_super p caller called ≡ finds_super_of p caller (Some q)
        searched = ap (finds_super_of p caller) entry

        by : (x : Option ℕ) → class_place p q.class ≡ x → super_candidates p q x ≡ []
        by None k = refl
        by (Some u) k = test (is_037 p.version) (interface_at p u) refl refl
          where
            test : (a b : Bool) → is_037 p.version ≡ a → interface_at p u ≡ b → (if (is_037 p.version && interface_at p u) then candidates p (u ∷ []) q.name q.proto else []) ≡ []
            test false b x y = ap (λ z. if (z && interface_at p u) then candidates p (u ∷ []) q.name q.proto else []) x
            test true false x y = ap (λ z. if (z && interface_at p u) then candidates p (u ∷ []) q.name q.proto else []) x ∙ ap (λ z. if z then candidates p (u ∷ []) q.name q.proto else []) y
            test true true x y =
                let is : finds_among p (u ∷ []) q.name q.proto ≡ Finds at =
                sym (searched ∙ ap (λ z. cond z (finds_super_037 p caller q (class_place p q.class)) (finds_above p caller q)) x ∙ ap (finds_super_037 p caller q) k ∙ ap (λ z. cond z (finds_among p (u ∷ []) q.name q.proto) (finds_above p caller q)) y) ∙ e in
                clash (is_it p n at) g (other_than p h wf res o n c at (super_given p rank q.name q.proto u at (among_has p rank q.name q.proto (u ∷ []) at is)).interface)

    unplain_all : list_all (is_it p n) (may_find p caller call.Super called q) ≡ false → is_plain_call p n caller call.Super called q ≡ false
    unplain_all e = ap (λ b. resolves_to p n called && is_subclass p n q && not (may_leave p caller call.Super called q) && b) e ∙ no_both (resolves_to p n called && is_subclass p n q && not (may_leave p caller call.Super called q))

    super_plain : is_plain_call p n caller call.Super called q ≡ (s && f)
    super_plain = by_static s refl
      where
        by_found : (x : Search) → finds_super p caller called ≡ x → s ≡ true → is_plain_call p n caller call.Super called q ≡ f
        by_found Nothing e g =
            leaves (resolves_to p n called && is_subclass p n q) (not (is_some (class_place p q.class))) (misses p caller call.Super called q) (list_any (λ at. not (has_code (method_at p at))) (may_find p caller call.Super called q)) (list_all (is_it p n) (may_find p caller call.Super called q)) (ap is_nothing e)
            ∙ sym (ap (λ y. is_this n (number_searched p y)) e)
          where
            leaves : (r d m k a : Bool) → m ≡ true → (r && not ((d || m) || k) && a) ≡ false
            leaves r true m k a x = ap (λ z. z && a) (no_both r)
            leaves r false true k a x = ap (λ z. z && a) (no_both r)
            leaves r false false k a x = absurd (true≢false (sym x))
        by_found Clash e g = by_place (class_place p q.class) refl ∙ sym (ap (λ y. is_this n (number_searched p y)) e)
          where
            searched : finds_super p caller called ≡ finds_super_of p caller (Some q)
            searched = ap (finds_super_of p caller) entry

            no_clash : (z : Option MethodAt) → search_of z ≡ Clash → ⊥
            no_clash None k = absurd (cc)
            no_clash (Some z) k = absurd (cc)

            member : (u : ℕ) (x : MethodAt) → class_place p q.class ≡ Some u → (is_037 p.version && interface_at p u) ≡ true → Has x (candidates p (u ∷ []) q.name q.proto) → is_plain_call p n caller call.Super called q ≡ false
            member u x k t i = unplain_all (untrue (list_all (is_it p n) (may_find p caller call.Super called q)) (λ y.
                clash (is_it p n x) (all_methods (is_it p n) (may_find p caller call.Super called q) x y
                (has_right (found_by search) (super_candidates p q (class_place p q.class)) x (subst (λ z. Has x z) (sym (ap (super_candidates p q) k ∙ ap (λ z. if z then candidates p (u ∷ []) q.name q.proto else []) t)) i)))
                (other_than p h wf res o n c x (super_given p rank q.name q.proto u x i).interface)))

            by_place : (x : Option ℕ) → class_place p q.class ≡ x → is_plain_call p n caller call.Super called q ≡ false
            by_place None k = absurd (let z = named_class_by in true≢false (sym z ∙ ap is_some k))
              where
                named_class_by : is_some (class_place p q.class) ≡ true
                named_class_by = static_named static refl g
                  where
                    static_named : (y : Option MethodAt) → finds_static p called ≡ y → is_this n (number_found p y) ≡ true → is_some (class_place p q.class) ≡ true
                    static_named None a b = absurd (true≢false (sym b))
                    static_named (Some at) a b = named_class at a
            by_place (Some u) k = test (is_037 p.version) (interface_at p u) refl refl
              where
                test : (a b : Bool) → is_037 p.version ≡ a → interface_at p u ≡ b → is_plain_call p n caller call.Super called q ≡ false
                test false b x y = absurd (no_clash _ (sym (searched ∙ ap (λ z. cond z (finds_super_037 p caller q (class_place p q.class)) (finds_above p caller q)) x) ∙ e))
                test true false x y = absurd (no_clash _ (sym (searched ∙ ap (λ z. cond z (finds_super_037 p caller q (class_place p q.class)) (finds_above p caller q)) x ∙ ap (finds_super_037 p caller q) k ∙ ap (λ z. cond z (finds_among p (u ∷ []) q.name q.proto) (finds_above p caller q)) y) ∙ e))
                test true true x y =
                    let is : finds_among p (u ∷ []) q.name q.proto ≡ Clash =
                    sym (searched ∙ ap (λ z. cond z (finds_super_037 p caller q (class_place p q.class)) (finds_above p caller q)) x ∙ ap (finds_super_037 p caller q) k ∙ ap (λ z. cond z (finds_among p (u ∷ []) q.name q.proto) (finds_above p caller q)) y) ∙ e in
                    let r = clash_one p rank q.name q.proto (u ∷ []) is in
                    member u r.0 k (and_both (is_037 p.version) (interface_at p u) x y) r.1
        by_found (Finds at) e g = test (is_it p n at) refl
          where
            test : (b : Bool) → is_it p n at ≡ b → is_plain_call p n caller call.Super called q ≡ f
            test false k = unplain_all (ap (λ y. list_all (is_it p n) (found_by y ++ super_candidates p q (class_place p q.class))) e ∙ ap (λ b. b && list_all (is_it p n) (super_candidates p q (class_place p q.class))) k) ∙ sym (ap (λ y. is_this n (number_searched p y)) e ∙ k)
            test true k =
                let only : may_find p caller call.Super called q ≡ at ∷ [] = ap (λ y. found_by y ++ super_candidates p q (class_place p q.class)) e ∙ ap (λ ys. at ∷ ys) (none_there at e k) in
                and_both (resolves_to p n called && is_subclass p n q && not (may_leave p caller call.Super called q)) (list_all (is_it p n) (may_find p caller call.Super called q))
                (and_both (resolves_to p n called && is_subclass p n q) (not (may_leave p caller call.Super called q)) (so_static p h wf res o n c called q entry g)
                (ap not (none_or (not (is_some (class_place p q.class)) || misses p caller call.Super called q) (list_any (λ y. not (has_code (method_at p y))) (may_find p caller call.Super called q))
                (none_or (not (is_some (class_place p q.class))) (misses p caller call.Super called q) (ap not (static_named static refl g)) (ap is_nothing e))
                (ap (λ ys. list_any (λ y. not (has_code (method_at p y))) ys) only ∙ ap (λ z. not (has_code (method_at p z)) || false) (here p h wf res o n c at k) ∙ ap (λ z. not (has_code z) || false) (method_here p h wf res o n c) ∙ ap (λ b. not b || false) (coded p h wf res o n c)))))
                (ap (λ ys. list_all (is_it p n) ys) only ∙ ap (λ b. b && true) k)
                ∙ sym (ap (λ y. is_this n (number_searched p y)) e ∙ k)
              where
                static_named : (y : Option MethodAt) → finds_static p called ≡ y → is_this n (number_found p y) ≡ true → is_some (class_place p q.class) ≡ true
                static_named None a b = absurd (true≢false (sym b))
                static_named (Some z) a b = named_class z a

        by_static : (b : Bool) → s ≡ b → is_plain_call p n caller call.Super called q ≡ (s && f)
        by_static true g = by_found search refl g ∙ sym (ap (λ b. b && f) g)
        by_static false g = split_false (resolves_to p n called && is_subclass p n q) (may_leave p caller call.Super called q) (list_all (is_it p n) (may_find p caller call.Super called q)) (static_same p h wf res o n c called q entry ∙ g) ∙ sym (ap (λ b. b && f) g)

    super_is : (safe : Bool) → allows_so p caller call.Super called q safe n ≡ (not (names || f) || (safe && (s && f)))
    super_is safe = ap (λ b. not (names || b) || (safe && is_plain_call p n caller call.Super called q)) found_is ∙ ap (λ b. not (names || f) || (safe && b)) super_plain

    some_number : (x y : Option ℕ) → same_some x y ≡ true → is_some y ≡ true
    some_number None y e = absurd (true≢false (sym e))
    some_number (Some a) None e = absurd (true≢false (sym e))
    some_number (Some a) (Some b) e = refl

    both_here : (x y : Option ℕ) → is_this n x ≡ true → is_this n y ≡ true → same_some x y ≡ true
    both_here None y a b = absurd (true≢false (sym a))
    both_here (Some x) None a b = absurd (true≢false (sym b))
    both_here (Some x) (Some y) a b = number_test x y (number_of x n a ∙ sym (number_of y n b))

    pub super_kept : (safe : Bool) → (safe && same_some (number_searched p search) (number_found p static)) ≡ true → allows_so p caller call.Super called q safe n ≡ true
    super_kept safe e =
        let g = and_left safe (same_some (number_searched p search) (number_found p static)) e in
        let k = and_right safe (same_some (number_searched p search) (number_found p static)) e in
        let same : f ≡ s = ap (is_this n) (same_number (number_searched p search) (number_found p static) k) in
        super_is safe ∙ ap (λ b. not (names || b) || (safe && (s && b))) same ∙ ap (λ b. not (b || s) || (safe && (s && s))) (found_named (some_number (number_searched p search) (number_found p static) k)) ∙ ap (λ b. not (s || s) || (b && (s && s))) g ∙ end s
      where
        end : (b : Bool) → (not (b || b) || (true && (b && b))) ≡ true
        end true = refl
        end false = refl

    super_by : (m b d k : Bool) → (b ≡ true → (k && (d && true)) ≡ false) → (not m && not b) ≡ (not (m || b) || (k && (d && b)))
    super_by true true d k x = sym (x refl)
    super_by true false d k x = sym (ap (λ z. k && z) (no_both d) ∙ no_both k)
    super_by false true d k x = sym (x refl)
    super_by false false d k x = refl

    pub super_barred : (safe : Bool) → (safe && same_some (number_searched p search) (number_found p static)) ≡ false → (not names && not f) ≡ allows_so p caller call.Super called q safe n
    super_barred safe e = super_by names f s safe (λ g. by s refl g) ∙ sym (super_is safe)
      where
        by : (b : Bool) → s ≡ b → f ≡ true → (safe && (s && true)) ≡ false
        by true k g = ap (λ z. z && (s && true)) (unsafe safe (same_some (number_searched p search) (number_found p static)) e (both_here (number_searched p search) (number_found p static) g k))
        by false k g = ap (λ z. safe && (z && true)) k ∙ no_both safe
