-- What the pass leaves of a program is the program with copies at sites: its plan is read, class by class and method by method.
use Rattle.std.proofs.Common.{◌≡◌, ◌⊎◌, inl, inr, ℕ, zero, suc, ◌+◌, ◌<◌, ◌≤◌, Bool, true, false, true≢false, List, [], ◌∷◌, ◌++◌, length, Option, Some, None, refl, sym, ap, ap₂, ◌∙◌, subst, arith, nat_eq}
use Rattle.std.specs.Prelude.{◌&&◌, ◌^◌, not, min, if◌then◌else◌, is_some, nat_le, slice_get, slice_index_or, option_and_then}
use Rattle.std.proofs.Math.Nat.{min-eq_left}
use Rattle.std.proofs.lemmas.Bool.{eqb-true, leb-true, cases_lt}
use Rattle.lemmas.proofs.Bools.{and_left, and_right, not_true}
use Rattle.lemmas.proofs.Lists.{got_short}
use Rattle.lemmas.proofs.Options.{none_some, some_same}
use Rattle.insn_set.specs.Widths.{is_wide_slot}
use Rattle.insn_set.specs.declared.ops.Slot.{Slot}
use Rattle.insn_set.specs.declared.ops.InvokeKind.TheVariants as call
use Rattle.insn_set.specs.declared.form.Insn.{Insn}
use Rattle.insn_set.specs.declared.form.Insn.TheVariants as insn
use Rattle.program_model.specs.Lookups.{method_at}
use Rattle.program_model.specs.MemberRules.{has_flag}
use Rattle.program_model.specs.ProgramRules.{is_well_formed}
use Rattle.program_model.specs.Texts.{letter_of, is_void, is_wide}
use Rattle.program_model.specs.declared.body.Body.{Body}
use Rattle.program_model.specs.declared.pass.Origin.{Origin}
use Rattle.program_model.specs.declared.pools.MethodName.{MethodName}
use Rattle.program_model.specs.declared.pools.Proto.{Proto}
use Rattle.program_model.specs.declared.program.Class.{Class}
use Rattle.program_model.specs.declared.program.Method.{Method}
use Rattle.program_model.specs.declared.program.MethodAt.{MethodAt}
use Rattle.program_model.specs.declared.program.Program.{Program}
use Rattle.class_defs.proofs.WellFormed.{few_classes}
use Rattle.hierarchy.specs.Shapes.{IsOf, IsResolved}
use Rattle.hierarchy.specs.declared.build.Hierarchy.{Hierarchy}
use Rattle.facts.specs.declared.facts.Facts.{Facts}
use Rattle.dalvik_defs.specs.Naming.{named_class, named_method}
use Rattle.dalvik_defs.specs.Silence.{key_in}
use Rattle.program_laws.specs.Others.{Pairwise}
use Rattle.program_laws.specs.Numbered.{NumberedCodes, OtherNumberedMethod, OtherNumberedClass, OtherNumberedBodies}
use Rattle.facts_kept.proofs.Few.{few_members}
use Rattle.splice.specs.declared.callee.Callee.{Callee}
use Rattle.splice.specs.Callees.{chosen_at, taken_by}
use Rattle.splice.specs.Moves.{parameters_of}
use Rattle.splice.specs.Pieces.{spliced}
use Rattle.splice.specs.Shifted.{word}
use Rattle.inline_calls.specs.declared.site.Known.{Known}
use Rattle.inline_calls.specs.declared.site.Caller.{Caller}
use Rattle.inline_calls.specs.declared.caller.Inliner.{Inliner}
use Rattle.inline_calls.specs.declared.editing.Edit.{Edit}
use Rattle.inline_calls.specs.declared.done.Done.{Done}
use Rattle.inline_calls.specs.Accepting.{Tries, Unsuited, Suited, HasTried, Untried, Tried}
use Rattle.inline_calls.specs.Asked.{Row}
use Rattle.inline_calls.specs.Candidates.{found_by, is_suited, is_beside, is_plain, is_small, has_registers, result_stands_alone, second_behind, arg_behind, args_fit, args_behind, passes_args, result_in, result_of, takes_result, is_agreeing, receiver_in, KnowsReceiver, IsCandidate}
use Rattle.inline_calls.specs.Edited.{method_by, each_by, class_by, program_by}
use Rattle.inline_calls.specs.Plans.{nothing_done, edit_of, IsCallerOf, LooksAt, Bare, Barred, Looked, HaveLooked, NoneLooked, OneLooked, LooksAtMethod, LooksInClass, LooksThrough, IsInlined}
use Rattle.inline_calls.specs.Rooms.{spliced_by, new_of}
use Rattle.inline_calls.proofs.Chosen.{tried_candidates}
use Rattle.calls_kept.specs.Sites.{Calls, Statically, Directly, Holds, HoldsNone, HoldsOne, HoldsTwo, Passed, Plainly, Behind, TakesFrom, NeverNull, receiver_of, IsSite}
use Rattle.calls_kept.specs.Sites as by_number
use Rattle.calls_kept.proofs.InlinedBodies.{is_code, few_positions}
use Rattle.calls_kept.specs.Spliced.{AreSites, SplicesSo, NoCode, Same, Spliced as SplicedCode}

-- ---- a candidate is a site

module _ (p : Program) where
  -- what is passed
  two_held : (t r : ℕ) (ts rs behind : List ℕ) → is_wide (letter_of p t) ≡ true → second_behind r rs ≡ Some behind → Holds p ts behind → Holds p (t ∷ ts) (r ∷ rs)
  two_held t r ts [] behind w e h = none_some behind e
  two_held t r ts (q ∷ rs) behind w e h = by (nat_eq q (r + 1)) refl e
    where
      by : (b : Bool) → nat_eq q (r + 1) ≡ b → (if b then Some rs else None) ≡ Some behind → Holds p (t ∷ ts) (r ∷ q ∷ rs)
      by false i j = none_some behind j
      by true i j = subst (λ z. Holds p (t ∷ ts) (r ∷ z ∷ rs)) (sym (eqb-true q (r + 1) i)) (HoldsTwo t r ts rs w (subst (Holds p ts) (sym (some_same rs behind j)) h))

  fit_holds : (ts rs : List ℕ) → args_fit p ts rs ≡ true → Holds p ts rs
  fit_holds [] [] e = HoldsNone
  fit_holds [] (r ∷ rs) e = absurd (let l : suc (length rs) ≡ 0 = eqb-true (suc (length rs)) 0 e in omega (arith, l))
  fit_holds (t ∷ ts) rs e = by (is_wide (letter_of p t)) refl rs e (fit_holds ts)
    where
      wide : (o : Option (List ℕ)) (r : ℕ) (rs : List ℕ) → is_wide (letter_of p t) ≡ true → second_behind r rs ≡ o → elim o as (λ o. Bool) [ Some behind ↦ args_fit p ts behind | None ↦ false ] ≡ true
          → ((rs : List ℕ) → args_fit p ts rs ≡ true → Holds p ts rs) → Holds p (t ∷ ts) (r ∷ rs)
      wide None r rs w i j more = absurd (true≢false (sym j))
      wide (Some behind) r rs w i j more = two_held t r ts rs behind w i (more behind j)

      by : (w : Bool) → is_wide (letter_of p t) ≡ w → (rs : List ℕ) → elim (arg_behind w rs) as (λ o. Bool) [ Some behind ↦ args_fit p ts behind | None ↦ false ] ≡ true
          → ((rs : List ℕ) → args_fit p ts rs ≡ true → Holds p ts rs) → Holds p (t ∷ ts) rs
      by w i [] j more = absurd (true≢false (sym j))
      by true i (r ∷ rs) j more = wide (second_behind r rs) r rs i refl j more
      by false i (r ∷ rs) j more = HoldsOne t r ts rs i (more rs j)

  -- the call, with what it passes
  record IsCall (place : MethodAt) (ts : List ℕ) (static : Bool) (i : Insn) : Type 0 where
    args : List ℕ
    calls : Calls p place args static i
    passed : Passed p ts static args
    receiver : receiver_in i ≡ receiver_of args

  direct_passed : (ts args : List ℕ) (o : Option (List ℕ)) → arg_behind false args ≡ o → elim o as (λ o. Bool) [ Some rs ↦ args_fit p ts rs | None ↦ false ] ≡ true → Passed p ts false args
  direct_passed ts args None e h = absurd (true≢false (sym h))
  direct_passed ts [] (Some rs) e h = none_some rs e
  direct_passed ts (r ∷ args) (Some rs) e h = Behind r args (fit_holds ts args (ap (args_fit p ts) (some_same args rs e) ∙ h))

  passes_by : (m : Method) (o : Option (List ℕ)) → passes_args p m o ≡ elim o as (λ o. Bool) [ Some rs ↦ args_fit p (parameters_of p m.name) rs | None ↦ false ]
  passes_by m None = refl
  passes_by m (Some rs) = refl

  no_receiver : (args : List ℕ) (method : ℕ) → receiver_in (insn.Invoke call.Direct method args) ≡ receiver_of args
  no_receiver [] method = refl
  no_receiver (r ∷ rs) method = refl

  static_receiver : (args : List ℕ) (method : ℕ) → receiver_in (insn.Invoke call.Static method args) ≡ receiver_of args
  static_receiver [] method = refl
  static_receiver (r ∷ rs) method = refl

  is_call : (place : MethodAt) (m : Method) (static : Bool) (i : Insn) → found_by p i ≡ Some place → passes_args p m (args_behind static i) ≡ true → IsCall place (parameters_of p m.name) static i
  is_call place m true (insn.Invoke call.Static method args) f e = record { args = args; calls = Statically method f; passed = Plainly args (fit_holds (parameters_of p m.name) args e); receiver = static_receiver args method }
  is_call place m false (insn.Invoke call.Direct method args) f e = record {
    args = args;
    calls = Directly method f;
    passed = direct_passed (parameters_of p m.name) args (arg_behind false args) refl (sym (passes_by m (arg_behind false args)) ∙ e);
    receiver = no_receiver args method;
  }
  is_call place m true i f e = absurd (true≢false (sym e))
  is_call place m false i f e = absurd (true≢false (sym e))

  -- what is taken
  same_result : (n : ℕ) → result_of p n ≡ by_number.result_of p n
  same_result n = by (slice_get p.methods n)
    where
      by : (o : Option MethodName) → result_in (option_and_then (λ m. slice_get p.protos m.proto) o)
          ≡ elim o as (λ o. ℕ) [ Some q ↦ elim (slice_get p.protos q.proto) [ Some t ↦ t.result | None ↦ 4294967295 ] | None ↦ 4294967295 ]
      by None = refl
      by (Some q) = in_proto (slice_get p.protos q.proto)
        where
          in_proto : (o : Option Proto) → result_in o ≡ elim o as (λ o. ℕ) [ Some t ↦ t.result | None ↦ 4294967295 ]
          in_proto None = refl
          in_proto (Some t) = refl

  alike : (w s : Bool) → (if w then s else not s) ≡ true → w ≡ s
  alike true s e = sym e
  alike false s e = sym (not_true s e)

  takes_by : (m : Method) (o : Option (Slot × ℕ)) → takes_result p m o ≡ true → TakesFrom p (result_of p m.name) o
  takes_by m None e = record { gives = λ s i. none_some s i; wide = λ s i. none_some s i }
  takes_by m (Some t) e =
      let void = is_void (letter_of p (result_of p m.name)) in
      let wide = is_wide (letter_of p (result_of p m.name)) in
      record {
        gives = λ s i. not_true void (and_left (not void) (if wide then is_wide_slot t.0 else not (is_wide_slot t.0)) e);
        wide = λ s i. alike wide (is_wide_slot t.0) (and_right (not void) (if wide then is_wide_slot t.0 else not (is_wide_slot t.0)) e) ∙ ap (λ (z : Slot × ℕ). is_wide_slot z.0) (some_same t s i);
      }

module _ (p : Program) (h : Hierarchy) (facts : Facts) (resolved : IsResolved p h) (k : Known) (program : k.program.now ≡ p) (hierarchy : k.hierarchy.now ≡ h) (known : k.facts.now ≡ facts) where
  -- the parts of what suits
  record IsSuited (q : Program) (c : Caller) (n : ℕ) (place : MethodAt) (m : Method) (b : Body) : Type 0 where
    beside : place.class ≡ c.at.class
    short : length b.insns ≤ 16
    regions : length b.regions ≡ 0
    few : c.body.now.registers + b.registers ≤ 16

  suited : (q : Program) (c : Caller) (n : ℕ) (place : MethodAt) (m : Method) (b : Body) → is_suited q c n place m b ≡ true → IsSuited q c n place m b
  suited q c n place m b e =
      let one = and_left (is_beside c.at place && is_plain q m && is_small b && has_registers c.body.now b) (not (result_stands_alone c.body.now n)) e in
      let two = and_left (is_beside c.at place && is_plain q m && is_small b) (has_registers c.body.now b) one in
      let three = and_left (is_beside c.at place && is_plain q m) (is_small b) two in
      let small = and_right (is_beside c.at place && is_plain q m) (is_small b) two in
      let beside = and_left (is_beside c.at place) (is_plain q m) three in
      record {
        beside = eqb-true place.class c.at.class (and_left (nat_eq place.class c.at.class) (not (nat_eq place.place c.at.place)) beside);
        short = leb-true (length b.insns) 16 (and_left (nat_le (length b.insns) 16) (nat_eq (length b.regions) 0) small);
        regions = eqb-true (length b.regions) 0 (and_right (nat_le (length b.insns) 16) (nat_eq (length b.regions) 0) small);
        few = leb-true (c.body.now.registers + b.registers) 16 (and_right (is_beside c.at place && is_plain q m && is_small b) (has_registers c.body.now b) one);
      }

  none_long : {A : Type 0} (xs : List A) → length xs ≡ 0 → xs ≡ []
  none_long [] e = refl
  none_long (x ∷ xs) e = absurd (omega (arith, e))

  module _ (at : MethodAt) (m : Method) (b : Body) (c : Caller) (is_at : c.at ≡ at) (is_method : c.method.now ≡ m) (is_body : c.body.now ≡ b) (few : length b.insns ≤ 67108864) where
    site_of : (n : ℕ) (y : Callee) → IsCandidate k c n y → IsSite p h facts at m b n y
    site_of n y x =
        let s = suited k.program.now c n x.place y.method.now y.body.now x.suited in
        let static = has_flag y.method.now.flags 8 in
        let of : IsOf k.program.now k.hierarchy.now = subst (λ (z : Hierarchy). IsOf k.program.now z) (sym hierarchy) (subst (λ (z : Program). IsOf z h) (sym program) resolved.of) in
        let finds : found_by p x.insn ≡ Some x.place = ap (λ (z : Program). found_by z x.insn) (sym program) ∙ x.finds of in
        let agrees : is_agreeing p c.body.now n x.insn y.method.now ≡ true = ap (λ (z : Program). is_agreeing z c.body.now n x.insn y.method.now) (sym program) ∙ x.agrees in
        let passes = and_left (passes_args p y.method.now (args_behind static x.insn)) (takes_result p y.method.now (taken_by (slice_get c.body.now.insns (n + 1)))) agrees in
        let takes = and_right (passes_args p y.method.now (args_behind static x.insn)) (takes_result p y.method.now (taken_by (slice_get c.body.now.insns (n + 1)))) agrees in
        let q = is_call p x.place y.method.now static x.insn finds passes in
        let here : slice_get b.insns n ≡ Some x.insn = ap (λ (z : Body). slice_get z.insns n) (sym is_body) ∙ x.here in
        record {
          insn = x.insn;
          here = here;
          place = x.place;
          args = q.args;
          calls = q.calls;
          method = ap (λ (z : Program). method_at z x.place) (sym program) ∙ x.method;
          code = x.code;
          beside = s.beside ∙ ap (λ (z : MethodAt). z.class) is_at;
          unguarded = none_long y.body.now.regions s.regions;
          short = s.short;
          few = subst (λ (z : Body). z.registers + y.body.now.registers ≤ 16) is_body s.few;
          passes = q.passed;
          takes = subst (λ r. TakesFrom p r (taken_by (slice_get b.insns (n + 1)))) (same_result p y.method.now.name)
              (subst (λ (z : Body). TakesFrom p (result_of p y.method.now.name) (taken_by (slice_get z.insns (n + 1)))) is_body (takes_by p y.method.now (taken_by (slice_get c.body.now.insns (n + 1))) takes));
          static = λ e. ap (λ (z : Hierarchy). slice_index_or z.starts.trivial.items x.place.class false) (sym hierarchy) ∙ x.enters.static e;
          direct = λ e. never x.insn (receiver_of q.args) (x.enters.direct e) q.receiver (got_short b.insns n x.insn here);
        }
      where
        never : (i : Insn) (r : ℕ) → KnowsReceiver k.facts.now c.method.now.name (min n 4294967295) (receiver_in i) → receiver_in i ≡ r → n < length b.insns → NeverNull facts m.name n r
        never i r z e l =
            let at_n : min n 4294967295 ≡ n = min-eq_left (let f = few in omega (arith, f, l)) in
            let y = subst (λ x. KnowsReceiver facts m.name n x) e
            (subst (λ x. KnowsReceiver facts m.name x (receiver_in i)) at_n (subst (λ (x : Method). KnowsReceiver facts x.name (min n 4294967295) (receiver_in i)) is_method (subst (λ (x : Facts). KnowsReceiver x c.method.now.name (min n 4294967295) (receiver_in i)) known z))) in
            record { frame = y.frame; here = y.here; never_null = y.never_null }

-- ---- what is chosen

-- a method is chosen somewhere, or nothing is
pub record IsSome (chosen : List (Option Callee)) : Type 0 where
  pub place : ℕ
  pub callee : Callee
  pub there : chosen_at chosen place ≡ Some callee

tries_some : (i : Inliner) (c : Caller) (cells n : ℕ) (old new : List (Option Callee)) (rows : List Row) → Tries i c cells n old rows new → (old ≡ []) ⊎ IsSome old → (new ≡ []) ⊎ IsSome new
tries_some i c cells n old _ _ (Unsuited none) h = h
tries_some i c cells n old _ _ (Suited y new rows None candidate with_it weighs) h = h
tries_some i c cells n old _ _ (Suited y new rows (Some s) candidate with_it weighs) h = inr (record { place = n; callee = y; there = with_it.here })

pub tried_some : (i : Inliner) (c : Caller) (cells n : ℕ) (rows : List Row) (chosen : List (Option Callee)) → HasTried i c cells n rows chosen → (chosen ≡ []) ⊎ IsSome chosen
tried_some i c cells _ _ _ Untried = inl refl
tried_some i c cells _ _ _ (Tried n rows more old new before tries) = tries_some i c cells n old new more tries (tried_some i c cells n rows old before)

-- ---- lists that were looked at

pub record LookedAt {A E : Type 0} (looks : ℕ → A → Done → List Row → E → Done → Type 0) (given : List E) (k : ℕ) (x : A) : Type 0 where
  pub one : E
  pub there : slice_get given k ≡ Some one
  pub before : Done
  pub rows : List Row
  pub behind : Done
  pub looked : looks k x before rows one behind

get_first : {E : Type 0} (xs ys : List E) (k : ℕ) (e : E) → slice_get xs k ≡ Some e → slice_get (xs ++ ys) k ≡ Some e
get_first [] ys k e h = none_some e h
get_first (x ∷ xs) ys zero e h = h
get_first (x ∷ xs) ys (suc k) e h = get_first xs ys k e h

get_last : {E : Type 0} (xs : List E) (k : ℕ) (e : E) → k ≡ length xs → slice_get (xs ++ e ∷ []) k ≡ Some e
get_last [] zero e h = refl
get_last [] (suc k) e h = absurd (omega (arith, h))
get_last (x ∷ xs) zero e h = absurd (omega (arith, h))
get_last (x ∷ xs) (suc k) e h = get_last xs k e (omega (arith, h))

one_longer : {E : Type 0} (xs : List E) (e : E) → length (xs ++ e ∷ []) ≡ length xs + 1
one_longer [] e = omega arith
one_longer (x ∷ xs) e = let h = one_longer xs e in omega (arith, h)

module _ {A E : Type 0} (looks : ℕ → A → Done → List Row → E → Done → Type 0) (xs : List A) (d : Done) where
  pub looked_long : (n : ℕ) (rows : List Row) (given : List E) (e : Done) → HaveLooked looks xs d n rows given e → length given ≡ n
  looked_long _ _ _ _ NoneLooked = refl
  looked_long _ _ _ _ (OneLooked n x rows more given one e f before got looked) = let h = looked_long n rows given e before in let l = one_longer given one in omega (arith, h, l)

  pub looked_at : (n : ℕ) (rows : List Row) (given : List E) (e : Done) → HaveLooked looks xs d n rows given e → (k : ℕ) (x : A) → k < n → slice_get xs k ≡ Some x → LookedAt looks given k x
  looked_at _ _ _ _ NoneLooked k x l g = absurd (omega (arith, l))
  looked_at _ _ _ _ (OneLooked n z rows more given one e f before got looked) k x l g = by (λ m. looked_at n rows given e before k x m g) (cases_lt k n)
    where
      there : LookedAt looks given k x → LookedAt looks (given ++ one ∷ []) k x
      there r = record { one = r.one; there = get_first given (one ∷ []) k r.one r.there; before = r.before; rows = r.rows; behind = r.behind; looked = r.looked }

      here : k ≡ n → LookedAt looks (given ++ one ∷ []) k x
      here m = let same : z ≡ x = some_same z x (sym got ∙ ap (slice_get xs) (sym m) ∙ g) in record {
        one = one;
        there = get_last given k one (m ∙ sym (looked_long n rows given e before));
        before = e;
        rows = more;
        behind = f;
        looked = subst (λ (j : ℕ). looks j x e more one f) (sym m) (subst (λ (y : A). looks n y e more one f) same looked);
      }

      by : (k < n → LookedAt looks given k x) → (k < n) ⊎ (n ≤ k) → LookedAt looks (given ++ one ∷ []) k x
      by earlier (inl m) = there (earlier m)
      by earlier (inr m) = here (omega (arith, l, m))

pub pairs_given : {A E : Type 0} (by : E → A → A) (R : A → A → Type 0) (xs : List A) (es : List E) → length es ≡ length xs → ((k : ℕ) (x : A) (e : E) → slice_get xs k ≡ Some x → slice_get es k ≡ Some e → R x (by e x))
    → Pairwise R xs (each_by by es xs)
pairs_given by R [] [] l h = tt
pairs_given by R [] (e ∷ es) l h = absurd (omega (arith, l))
pairs_given by R (x ∷ xs) [] l h = absurd (omega (arith, l))
pairs_given by R (x ∷ xs) (e ∷ es) l h = (h 0 x e refl refl, pairs_given by R xs es (omega (arith, l)) (λ k y z g i. h (suc k) y z g i))

-- ---- methods, classes, the program

module _ (p : Program) (h : Hierarchy) (facts : Facts) (w : is_well_formed p ≡ true) (resolved : IsResolved p h) (i : Inliner) (program : i.known.program.now ≡ p) (hierarchy : i.known.hierarchy.now ≡ h) (known : i.known.facts.now ≡ facts) where
  module _ (class : ℕ) (c : Class) (is_class : slice_get p.classes class ≡ Some c) (place : ℕ) (m : Method) (is_method : slice_get c.methods place ≡ Some m) where
    stays : SplicesSo p h facts (key_in (named_class p c) (named_method p m)) m.body m.body
    stays = by m.body refl
      where
        by : (o : Option Body) → m.body ≡ o → SplicesSo p h facts (key_in (named_class p c) (named_method p m)) o o
        by None e = NoCode
        by (Some b) e = Same b (is_code p w class place c m b is_class is_method e).room

    same_method : OtherNumberedMethod (SplicesSo p h facts) p c m m
    same_method = record { same = refl; coded = refl; related = stays }

    abbrev at : MethodAt
    at = record { class = class; place = place }

    edited : (z : Caller) (chosen : List (Option Callee)) (cells : ℕ) (rows : List Row) → IsCallerOf c at m z → HasTried i z cells (length z.body.now.insns) rows chosen → OtherNumberedMethod (SplicesSo p h facts) p c m (method_by (edit_of (new_of i z chosen)) m)
    edited z chosen cells rows is tried = by chosen refl (tried_some i z cells (length z.body.now.insns) rows chosen tried)
      where
        few : length z.body.now.insns ≤ 67108864
        few = few_positions p w class place c m z.body.now is_class is_method is.code

        sites : (some : IsSome chosen) → AreSites p h facts at m z.body.now chosen
        sites some = record {
          each = λ n y e. site_of p h facts resolved i.known program hierarchy known at m z.body.now z is.place is.method refl few n y (tried_candidates i z cells (length z.body.now.insns) rows chosen tried n y e);
          some = some.place;
          first = some.callee;
          chosen_there = some.there;
        }

        new_body : (some : IsSome chosen) → SplicesSo p h facts (key_in (named_class p c) (named_method p m)) m.body (Some (spliced i.known.program.now z.method.now z.body.now chosen).body)
        new_body some = subst (λ (o : Option Body). SplicesSo p h facts (key_in (named_class p c) (named_method p m)) o (Some (spliced i.known.program.now z.method.now z.body.now chosen).body)) (sym is.code)
            (subst (λ (d : Body). SplicesSo p h facts (key_in (named_class p c) (named_method p m)) (Some z.body.now) (Some d))
            (ap₂ (λ (q : Program) (n : Method). (spliced q n z.body.now chosen).body) (sym program) (sym is.method))
            (SplicedCode at c m z.body.now chosen is_class is_method is.code refl (sites some)))

        by : (l : List (Option Callee)) → chosen ≡ l → (chosen ≡ []) ⊎ IsSome chosen → OtherNumberedMethod (SplicesSo p h facts) p c m (method_by (edit_of (new_of i z l)) m)
        by [] e s = same_method
        by (y ∷ ys) e (inl none) = absurd (let j : (y ∷ ys) ≡ [] = sym e ∙ none in cc)
        by (y ∷ ys) e (inr some) = subst (λ (l : List (Option Callee)). OtherNumberedMethod (SplicesSo p h facts) p c m (record m { body = Some (spliced_by i z l).body; lines = (spliced_by i z l).lines })) e (record {
          same = refl;
          coded = sym (ap is_some is.code);
          related = new_body some;
        })

    one_method : (d e : Done) (rows : List Row) (edit : Option Edit) → LooksAt i c at m d rows edit e → OtherNumberedMethod (SplicesSo p h facts) p c m (method_by edit m)
    one_method d _ _ _ (Bare none) = same_method
    one_method d _ _ _ (Barred none) = same_method
    one_method d e rows edit (Looked z _ _ _ admitted is looked) =
        subst (λ (x : Option Edit). OtherNumberedMethod (SplicesSo p h facts) p c m (method_by x m)) (sym looked.edit) (edited z looked.chosen d.cells rows is looked.tried)

-- ---- a plan, method by method

-- the places of a class and of a method are numbers of 32 bits
whole_class : (p : Program) → is_well_formed p ≡ true → (k : ℕ) (c : Class) → slice_get p.classes k ≡ Some c → word k ≡ k
whole_class p w k c e = min-eq_left (let l = got_short p.classes k c e in let f = few_classes p w in omega (arith, l, f))

whole_place : (p : Program) → is_well_formed p ≡ true → (k : ℕ) (c : Class) → slice_get p.classes k ≡ Some c → (j : ℕ) (m : Method) → slice_get c.methods j ≡ Some m → word j ≡ j
whole_place p w k c g j m a = min-eq_left (let l = got_short c.methods j m a in let f = few_members p w k c g in omega (arith, l, f))

-- Whatever is so of each method that was looked at is so of the program that is left.
module _ (N : NumberedCodes) (p : Program) (w : is_well_formed p ≡ true) (i : Inliner) (edits : List (List (Option Edit)))
    (each_method : (k : ℕ) (c : Class) → slice_get p.classes k ≡ Some c → (row : List (Option Edit)) → slice_get edits k ≡ Some row → (j : ℕ) (m : Method) → slice_get c.methods j ≡ Some m → (x : Option Edit) → slice_get row j ≡ Some x
    → (d e : Done) (rows : List Row) → LooksAt i c (record { class = k; place = j }) m d rows x e → OtherNumberedMethod N p c m (method_by x m)) where
  one_class : (k : ℕ) (c : Class) (d e : Done) (rows : List Row) (row : List (Option Edit)) → slice_get p.classes k ≡ Some c → slice_get edits k ≡ Some row → LooksInClass i k c d rows row e → OtherNumberedClass N p c (class_by row c)
  one_class k c d e rows row g b looked = record {
    same = refl;
    methods = pairs_given method_by (OtherNumberedMethod N p c) c.methods row (looked_long (LooksAtMethod i (word k) c) c.methods d (length c.methods) rows row e looked) each;
  }
    where
      each : (j : ℕ) (m : Method) (x : Option Edit) → slice_get c.methods j ≡ Some m → slice_get row j ≡ Some x → OtherNumberedMethod N p c m (method_by x m)
      each j m x a v =
          let z = looked_at (LooksAtMethod i (word k) c) c.methods d (length c.methods) rows row e looked j m (got_short c.methods j m a) a in
          let same : z.one ≡ x = some_same z.one x (sym z.there ∙ v) in
          let here : LooksAt i c (record { class = k; place = j }) m z.before z.rows z.one z.behind =
          subst (λ (q : MethodAt). LooksAt i c q m z.before z.rows z.one z.behind) (ap₂ (λ u v. record { class = u; place = v }) (whole_class p w k c g) (whole_place p w k c g j m a)) z.looked in
          each_method k c g row b j m a x v z.before z.behind z.rows (subst (λ (q : Option Edit). LooksAt i c (record { class = k; place = j }) m z.before z.rows q z.behind) same here)

  pub all_classes : (d e : Done) (rows : List Row) → LooksThrough i p.classes d rows edits e → OtherNumberedBodies N p (program_by edits p)
  all_classes d e rows looked = record {
    same = refl;
    classes = pairs_given class_by (OtherNumberedClass N p) p.classes edits (looked_long (LooksInClass i) p.classes d (length p.classes) rows edits e looked)
        (λ k c row g b. let z = looked_at (LooksInClass i) p.classes d (length p.classes) rows edits e looked k c (got_short p.classes k c g) g in
        one_class k c z.before z.behind z.rows row g b (subst (λ (r : List (Option Edit)). LooksInClass i k c z.before z.rows r z.behind) (some_same z.one row (sym z.there ∙ b)) z.looked));
  }

pub inlined_bodies : (p q : Program) (h : Hierarchy) (facts : Facts) (admitted : List Bool) (count : ℕ) (origins : List (List Origin)) (rows : List Row) → is_well_formed p ≡ true → IsResolved p h
    → IsInlined p h facts admitted q count origins rows → OtherNumberedBodies (SplicesSo p h facts) p q
inlined_bodies p q h facts admitted count origins rows w resolved x = subst (λ (z : Program). OtherNumberedBodies (SplicesSo p h facts) p z) (sym x.program)
    (all_classes (SplicesSo p h facts) p w x.planned.inliner x.edits
    (λ k c g row b j m a y v d e some looks. one_method p h facts w resolved x.planned.inliner x.planned.for.program x.planned.for.hierarchy x.planned.for.known k c g j m a d e some y looks)
    (nothing_done p) x.last rows x.planned.looked)
