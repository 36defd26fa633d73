-- How the calls of live bodies are noted.
use Rattle.std.proofs.Common.{◌≡◌, ◌∙◌, ℕ, zero, suc, ◌+◌, ◌*◌, ◌<◌, ◌≤◌, ◌⊎◌, inl, inr, Bool, true, false, true≢false, List, [], ◌∷◌, ◌++◌, length, take, refl, sym, ap, subst, arith, Some, None, Option}
use Rattle.std.specs.Prelude.{slice_index_or, slice_get, option_and_then, cond, ◌&&◌, nat_eq, nat_lt, Contains}
use Rattle.std.proofs.lemmas.Bool.{lt-ltb}
use Rattle.std.proofs.lemmas.List.{take_all}
use Rattle.std.proofs.lemmas.List.Elements.{Contains-push, Contains-push_cases, Contains-append_left}
use Rattle.insn_set.specs.declared.form.Insn.{Insn}
use Rattle.insn_set.specs.declared.form.Insn.TheVariants as insn
use Rattle.insn_set.specs.declared.ops.InvokeKind.{InvokeKind}
use Rattle.program_model.specs.declared.body.Body.{Body}
use Rattle.program_model.specs.declared.pools.MethodName.{MethodName}
use Rattle.program_model.specs.declared.program.Class.{Class}
use Rattle.program_model.specs.declared.program.Method.{Method}
use Rattle.program_model.specs.declared.program.Program.{Program}
use Rattle.class_defs.proofs.Positions.{number_of, number_test}
use Rattle.call_graph.specs.declared.live_set.LiveSet.{LiveSet}
use Rattle.call_targets.specs.declared.named.Call.{Call}
use Rattle.call_targets.specs.declared.named.Named.{Named}
use Rattle.call_targets.specs.Adding.{TurnsOn}
use Rattle.call_targets.specs.Called.{calls_on, AreSeen, NotesBy, IsThe, Makes, call_by, object_call, AmongInsns, InBody, AmongMethods, AmongClasses, AreNamed}
use Rattle.call_targets.specs.Targeted.{is_on, call_at, interface_of, IsCalledOn}
use Rattle.call_targets.proofs.Contained.{none_in, got_short, below_or}

-- nothing is noted where nothing is called
pub notes_none : (p : Program) (M : Bool → ℕ → Type 0) (n : Named) → AreSeen p n → ((i : Bool) (m : ℕ) (name : MethodName) → M i m → slice_get p.methods m ≡ Some name → ⊥) → NotesBy p M n n
notes_none p M n are none = record { are = are; keeps = λ k h. h; seen = λ i m name c e. absurd (none i m name c e); only = λ kind call c. inl c }

-- calls that are made here or there are noted in turn
pub notes_join : (p : Program) (M N R : Bool → ℕ → Type 0) (a b c : Named) → NotesBy p M a b → NotesBy p N b c → ((i : Bool) (m : ℕ) → R i m → M i m ⊎ N i m) → ((i : Bool) (m : ℕ) → M i m → R i m) → ((i : Bool) (m : ℕ) → N i m → R i m) → NotesBy p R a c
notes_join p M N R a b c f g split left right = record {
  are = g.are;
  keeps = λ n h. g.keeps n (f.keeps n h);
  seen = λ i m name r e. elim (split i m r) [ inl k ↦ g.keeps (call_at m i) (f.seen i m name k e) | inr k ↦ g.seen i m name k e ];
  only = λ kind call h. elim (g.only kind call h) [
    | inl d ↦ elim (f.only kind call d) [ inl k ↦ inl k | inr l ↦ inr (record { interface = l.interface; method = l.method; makes = left l.interface l.method l.makes; is = l.is }) ]
    | inr l ↦ inr (record { interface = l.interface; method = l.method; makes = right l.interface l.method l.makes; is = l.is })
  ];
}

-- another claim of the same calls
pub notes_other : (p : Program) (M R : Bool → ℕ → Type 0) (a b : Named) → NotesBy p M a b → ((i : Bool) (m : ℕ) → R i m → M i m) → ((i : Bool) (m : ℕ) → M i m → R i m) → NotesBy p R a b
notes_other p M R a b f back on = record {
  are = f.are;
  keeps = f.keeps;
  seen = λ i m name r e. f.seen i m name (back i m r) e;
  only = λ kind call h. elim (f.only kind call h) [ inl k ↦ inl k | inr l ↦ inr (record { interface = l.interface; method = l.method; makes = on l.interface l.method l.makes; is = l.is }) ];
}

-- ---- one call

parity : (i j : Bool) (m n : ℕ) → call_at m i ≡ call_at n j → (m ≡ n) × (i ≡ j)
parity true true m n e = (omega (arith, e), refl)
parity false false m n e = (omega (arith, e), refl)
parity true false m n e = absurd (omega (arith, e))
parity false true m n e = absurd (omega (arith, e))

some_same : {X : Type 0} (x y : X) → Some x ≡ Some y → x ≡ y
some_same x y e = cc

none_some : {X : Type 0} (x : X) → None ≡ Some x → ⊥
none_some x e = cc

marked_so : (l : List Bool) (n : ℕ) → n < length l → slice_index_or l n true ≡ true → slice_index_or l n false ≡ true
marked_so [] n lt h = absurd (omega (arith, lt))
marked_so (b ∷ bs) zero lt h = h
marked_so (b ∷ bs) (suc n) lt h = marked_so bs n (omega (arith, lt)) h

unmarked_reached : (l : List Bool) (n : ℕ) → slice_index_or l n false ≡ true → slice_index_or l n true ≡ true
unmarked_reached [] n h = refl
unmarked_reached (b ∷ bs) zero h = h
unmarked_reached (b ∷ bs) (suc n) h = unmarked_reached bs n h

on_short : (l : List Bool) (n : ℕ) → slice_index_or l n false ≡ true → n < length l
on_short [] n h = absurd (true≢false (sym h))
on_short (b ∷ bs) zero h = omega arith
on_short (b ∷ bs) (suc n) h = let r = on_short bs n h in omega (arith, r)

row_keeps : (t : Bool) (call x : Call) (row row' : List Call) → row' ≡ cond t (row ++ call ∷ []) row → Contains row x → Contains row' x
row_keeps true call x row row' e c = subst (λ l. Contains l x) (sym e) (Contains-append_left row (call ∷ []) x c)
row_keeps false call x row row' e c = subst (λ l. Contains l x) (sym e) c

row_cases : (k at size : ℕ) (call x : Call) (row row' : List Call) → row' ≡ cond (nat_eq k at && nat_lt k size) (row ++ call ∷ []) row → Contains row' x → Contains row x ⊎ ((k ≡ at) × (call ≡ x))
row_cases k at size call x row row' e c = by (nat_eq k at) (nat_lt k size) refl (subst (λ l. Contains l x) e c)
  where
    by : (a b : Bool) → nat_eq k at ≡ a → Contains (cond (a && b) (row ++ call ∷ []) row) x → Contains row x ⊎ ((k ≡ at) × (call ≡ x))
    by true true s c = elim (Contains-push_cases row call x c) [ inl f ↦ inl f | inr f ↦ inr (number_of k at s, f) ]
    by true false s c = inl c
    by false b s c = inl c

row_has : (k size : ℕ) (call : Call) (row row' : List Call) → row' ≡ cond (nat_eq k k && nat_lt k size) (row ++ call ∷ []) row → nat_lt k size ≡ true → Contains row' call
row_has k size call row row' e lt = subst (λ l. Contains l call) (sym (e ∙ ap (λ t. cond (t && nat_lt k size) (row ++ call ∷ []) row) (number_test k k refl) ∙ ap (λ t. cond t (row ++ call ∷ []) row) lt)) (Contains-push row call)

pair_same : (a b : Bool) (m n : ℕ) → ◌≡◌ {A = Bool × ℕ} (a, m) (b, n) → (a ≡ b) × (m ≡ n)
pair_same a b m n e = (ap (λ z. z.0) e, ap (λ z. z.1) e)

-- a call that was seen before
pub seen_before : (p : Program) (n : Named) (interface : Bool) (method : ℕ) → AreSeen p n → is_on n.seen.items (call_at method interface) ≡ true → NotesBy p (IsThe interface method) n n
seen_before p n interface method are on = record {
  are = are;
  keeps = λ k h. h;
  seen = λ i m name c e. subst (λ j. is_on n.seen.items (call_at m j) ≡ true) (sym c.same_way) (subst (λ k. is_on n.seen.items (call_at k interface) ≡ true) (sym c.same_method) on);
  only = λ kind call c. inl c;
}

call_is : (c : Call) (n m : ℕ) → c.number ≡ n → c.method ≡ m → c ≡ record { number = n; method = m }
call_is c n m a b = let f : ℕ → ℕ → Call = λ x y. record { number = x; method = y } in ap (λ z. f z c.method) a ∙ ap (λ z. f n z) b

-- a new call
module _ (p : Program) (a b : Named) (interface : Bool) (method : ℕ) (name : MethodName) (call : Call) (are : AreSeen p a) (is_name : slice_get p.methods method ≡ Some name)
    (number_is : call.number ≡ call_at method interface) (method_is : call.method ≡ method) (turns : TurnsOn (call_at method interface) a.seen.items b.seen.items) (long : length b.on.items ≡ length a.on.items)
    (rows : (k : ℕ) → calls_on b k ≡ cond (nat_eq k name.class && nat_lt k (length a.on.items)) (calls_on a k ++ call ∷ []) (calls_on a k)) where
  in_table : (i : Bool) (m n : ℕ) → m < n → call_at m i < 2 * n
  in_table true m n lt = omega (arith, lt)
  in_table false m n lt = omega (arith, lt)

  on_now : is_on b.seen.items (call_at method interface) ≡ true
  on_now = marked_so b.seen.items (call_at method interface) (let l = in_table interface method (length p.methods) (got_short p.methods method name is_name) in omega (arith, l, turns.long, are.marks)) turns.on

  on_still : (n : ℕ) → is_on a.seen.items n ≡ true → is_on b.seen.items n ≡ true
  on_still n h = marked_so b.seen.items n (let l = on_short a.seen.items n h in omega (arith, l, turns.long)) (turns.keeps n (unmarked_reached a.seen.items n h))

  listed : (i : Bool) (m : ℕ) (q : MethodName) → slice_get p.methods m ≡ Some q → q.class < length p.types → is_on b.seen.items (call_at m i) ≡ true → Contains (calls_on b q.class) (record { number = call_at m i; method = m })
  listed i m q e lt on = elim (turns.only (call_at m i) on) [
    | inl old ↦ row_keeps (nat_eq q.class name.class && nat_lt q.class (length a.on.items)) call (record { number = call_at m i; method = m }) (calls_on a q.class) (calls_on b q.class) (rows q.class) (are.listed i m q e lt old)
    | inr same ↦
        let both = parity i interface m method same in
        let named : name ≡ q = some_same name q (sym is_name ∙ ap (slice_get p.methods) (sym both.0) ∙ e) in
        let fits : name.class < length a.on.items = (let z : q.class < length p.types = lt in let y = ap (λ x. x.class) named in omega (arith, z, y, are.rows)) in
        let one : Contains (calls_on b name.class) call = row_has name.class (length a.on.items) call (calls_on a name.class) (calls_on b name.class) (rows name.class) (lt-ltb name.class (length a.on.items) fits) in
        let there : Contains (calls_on b q.class) call = subst (λ x. Contains (calls_on b x.class) call) named one in
        subst (λ x. Contains (calls_on b q.class) x) (call_is call (call_at m i) m (number_is ∙ sym same) (method_is ∙ sym both.0)) there
  ]

  pub notes_new : NotesBy p (IsThe interface method) a b
  notes_new = record {
    are = record { rows = long ∙ are.rows; marks = turns.long ∙ are.marks; listed = listed };
    keeps = on_still;
    seen = λ i m q c e. subst (λ j. is_on b.seen.items (call_at m j) ≡ true) (sym c.same_way) (subst (λ k. is_on b.seen.items (call_at k interface) ≡ true) (sym c.same_method) on_now);
    only = λ kind x c. elim (row_cases kind name.class (length a.on.items) call x (calls_on a kind) (calls_on b kind) (rows kind) c) [
      | inl old ↦ inl old
      | inr new ↦ inr (record {
        interface = interface;
        method = method;
        makes = record { same_way = refl; same_method = refl };
        is = record { name = name; is_name = is_name; is_kind = sym new.0; is_number = sym (ap (λ z. z.number) new.1) ∙ number_is; is_method = sym (ap (λ z. z.method) new.1) ∙ method_is };
      })
    ];
  }

-- ---- the call of an instruction

call_by_makes : (k : InvokeKind) (method : ℕ) (args : List ℕ) (o : Option Bool) (i : Bool) (m : ℕ) → interface_of k ≡ o → call_by o method ≡ Some (i, m) → Makes (insn.Invoke k method args) i m
call_by_makes k method args None i m e h = absurd (none_some {X = Bool × ℕ} (i, m) h)
call_by_makes k method args (Some b) i m e h = let s = pair_same b i method m (some_same {X = Bool × ℕ} (b, method) (i, m) h) in
    record { kind = k; args = args; is = ap (λ z. insn.Invoke k z args) s.1; finds_by_object = e ∙ ap (λ z. Some z) s.0 }

call_makes : (one : Insn) (i : Bool) (m : ℕ) → object_call one ≡ Some (i, m) → Makes one i m
call_makes (insn.Invoke k method args) i m h = call_by_makes k method args (interface_of k) i m refl h
call_makes one i m h = absurd (none_some {X = Bool × ℕ} (i, m) h)

makes_call : (one : Insn) (i : Bool) (m : ℕ) → Makes one i m → object_call one ≡ Some (i, m)
makes_call one i m k = ap object_call k.is ∙ ap (λ o. call_by o m) k.finds_by_object

pub insn_called : (p : Program) (a b : Named) (one : Insn) (i : Bool) (m : ℕ) → object_call one ≡ Some (i, m) → NotesBy p (IsThe i m) a b → NotesBy p (Makes one) a b
insn_called p a b one i m h f = notes_other p (IsThe i m) (Makes one) a b f
    (λ j n k. let s = pair_same j i n m (some_same {X = Bool × ℕ} (j, n) (i, m) (sym (makes_call one j n k) ∙ h)) in record { same_way = s.0; same_method = s.1 })
    (λ j n k. subst (λ z. Makes one z n) (sym k.same_way) (subst (Makes one i) (sym k.same_method) (call_makes one i m h)))

pub insn_silent : (p : Program) (a : Named) (one : Insn) → object_call one ≡ None → AreSeen p a → NotesBy p (Makes one) a a
insn_silent p a one h are = notes_none p (Makes one) a are (λ i m name k e. none_some {X = Bool × ℕ} (i, m) (sym h ∙ makes_call one i m k))

-- ---- one more of a list

pub insns_at : (p : Program) (a b c : Named) (xs : List Insn) (i : ℕ) (x : Insn) → take (i + 1) xs ≡ take i xs ++ x ∷ [] → NotesBy p (AmongInsns (take i xs)) a b → NotesBy p (Makes x) b c → NotesBy p (AmongInsns (take (i + 1) xs)) a c
insns_at p a b c xs i x more f g = notes_join p (AmongInsns (take i xs)) (Makes x) (AmongInsns (take (i + 1) xs)) a b c f g
    (λ w m r. elim (Contains-push_cases (take i xs) x r.one (subst (λ l. Contains l r.one) more r.there)) [
      | inl e ↦ inl (record { one = r.one; there = e; makes = r.makes })
      | inr s ↦ inr (subst (λ z. Makes z w m) (sym s) r.makes)
    ])
    (λ w m k. record { one = k.one; there = subst (λ l. Contains l k.one) (sym more) (Contains-append_left (take i xs) (x ∷ []) k.one k.there); makes = k.makes })
    (λ w m k. record { one = x; there = subst (λ l. Contains l x) (sym more) (Contains-push (take i xs) x); makes = k })

pub insns_all : (p : Program) (a b : Named) (xs : List Insn) (i : ℕ) → length xs ≤ i → NotesBy p (AmongInsns (take i xs)) a b → NotesBy p (AmongInsns xs) a b
insns_all p a b xs i le f = subst (λ l. NotesBy p (AmongInsns l) a b) (take_all i xs le) f

module _ (live : LiveSet) where
  -- ---- the body of a method

  pub body_dead : (p : Program) (m : Method) (a : Named) → AreSeen p a → is_on live.methods.items m.name ≡ false → NotesBy p (InBody live m) a a
  body_dead p m a are h = notes_none p (InBody live m) a are (λ i k name r e. true≢false (sym r.live_caller ∙ h))

  pub body_none : (p : Program) (m : Method) (a : Named) → AreSeen p a → m.body ≡ None → NotesBy p (InBody live m) a a
  body_none p m a are h = notes_none p (InBody live m) a are (λ i k name r e. none_some r.body (sym h ∙ r.has_body))

  pub body_some : (p : Program) (m : Method) (body : Body) (a b : Named) → is_on live.methods.items m.name ≡ true → m.body ≡ Some body → NotesBy p (AmongInsns body.insns) a b → NotesBy p (InBody live m) a b
  body_some p m body a b on h f = notes_other p (AmongInsns body.insns) (InBody live m) a b f
      (λ i k r. subst (λ z. AmongInsns z.insns i k) (some_same r.body body (sym r.has_body ∙ h)) r.makes)
      (λ i k r. record { body = body; live_caller = on; has_body = h; makes = r })

  -- ---- one more of a list of members

  pub methods_at : (p : Program) (a b c : Named) (xs : List Method) (i : ℕ) (x : Method) → slice_get xs i ≡ Some x → NotesBy p (AmongMethods live i xs) a b → NotesBy p (InBody live x) b c → NotesBy p (AmongMethods live (i + 1) xs) a c
  methods_at p a b c xs i x got f g = notes_join p (AmongMethods live i xs) (InBody live x) (AmongMethods live (i + 1) xs) a b c f g
      (λ w m r. elim (below_or r.place i r.before) [
        | inl lt ↦ inl (record { one = r.one; place = r.place; before = lt; there = r.there; makes = r.makes })
        | inr s ↦ inr (subst (λ z. InBody live z w m) (some_same r.one x (sym r.there ∙ ap (slice_get xs) s ∙ got)) r.makes)
      ])
      (λ w m k. record { one = k.one; place = k.place; before = (let l = k.before in omega (arith, l)); there = k.there; makes = k.makes })
      (λ w m k. record { one = x; place = i; before = omega arith; there = got; makes = k })

  pub classes_at : (p : Program) (a b c : Named) (xs : List Class) (i : ℕ) (x : Class) → slice_get xs i ≡ Some x → NotesBy p (AmongClasses live i xs) a b → NotesBy p (AmongMethods live (length x.methods) x.methods) b c → NotesBy p (AmongClasses live (i + 1) xs) a c
  classes_at p a b c xs i x got f g = notes_join p (AmongClasses live i xs) (AmongMethods live (length x.methods) x.methods) (AmongClasses live (i + 1) xs) a b c f g
      (λ w m r. elim (below_or r.place i r.before) [
        | inl lt ↦ inl (record { one = r.one; place = r.place; before = lt; there = r.there; makes = r.makes })
        | inr s ↦ inr (subst (λ z. AmongMethods live (length z.methods) z.methods w m) (some_same r.one x (sym r.there ∙ ap (slice_get xs) s ∙ got)) r.makes)
      ])
      (λ w m k. record { one = k.one; place = k.place; before = (let l = k.before in omega (arith, l)); there = k.there; makes = k.makes })
      (λ w m k. record { one = x; place = i; before = omega arith; there = got; makes = k })

  -- what goes over all methods is over each
  pub methods_all : (p : Program) (a b : Named) (xs : List Method) (i : ℕ) → length xs ≤ i → NotesBy p (AmongMethods live i xs) a b → NotesBy p (AmongMethods live (length xs) xs) a b
  methods_all p a b xs i le f = notes_other p (AmongMethods live i xs) (AmongMethods live (length xs) xs) a b f
      (λ w m r. record { one = r.one; place = r.place; before = (let l = r.before in omega (arith, l, le)); there = r.there; makes = r.makes })
      (λ w m r. record { one = r.one; place = r.place; before = got_short xs r.place r.one r.there; there = r.there; makes = r.makes })

  -- ---- at the end

  pub are_named : (p : Program) (a b : Named) (i : ℕ) → length p.classes ≤ i → ((kind : ℕ) → calls_on a kind ≡ []) → NotesBy p (AmongClasses live i p.classes) a b → AreNamed p live b
  are_named p a b i le empty f = record {
    all = λ way method name k e lt. f.are.listed way method name e lt (f.seen way method name (among way method k) e);
    only = λ kind call c. elim (f.only kind call c) [
      | inl old ↦ absurd (none_in call (subst (λ l. Contains l call) (empty kind) old))
      | inr l ↦ record { interface = l.interface; method = l.method; makes = called l.interface l.method l.makes; is = l.is }
    ];
  }
    where
      among : (way : Bool) (method : ℕ) → IsCalledOn p live way method → AmongClasses live i p.classes way method
      among way method k = by (slice_get p.classes k.at.class) refl k.is_caller
        where
          by : (o : Option Class) → slice_get p.classes k.at.class ≡ o → option_and_then (λ c. slice_get c.methods k.at.place) o ≡ Some k.caller → AmongClasses live i p.classes way method
          by None g e = absurd (none_some k.caller e)
          by (Some c) g e = record {
            one = c;
            place = k.at.class;
            before = (let s = got_short p.classes k.at.class c g in omega (arith, s, le));
            there = g;
            makes = record {
              one = k.caller;
              place = k.at.place;
              before = got_short c.methods k.at.place k.caller e;
              there = e;
              makes = record {
                body = k.body;
                live_caller = k.live_caller;
                has_body = k.has_body;
                makes = record { one = insn.Invoke k.kind method k.args; there = k.calls; makes = record { kind = k.kind; args = k.args; is = refl; finds_by_object = k.finds_by_object } };
              };
            };
          }

      called : (way : Bool) (method : ℕ) → AmongClasses live i p.classes way method → IsCalledOn p live way method
      called way method r = let m = r.makes in let b = m.makes in let n = b.makes in record {
        at = record { class = r.place; place = m.place };
        caller = m.one;
        body = b.body;
        kind = n.makes.kind;
        args = n.makes.args;
        is_caller = ap (option_and_then (λ c. slice_get c.methods m.place)) r.there ∙ m.there;
        live_caller = b.live_caller;
        has_body = b.has_body;
        calls = subst (Contains b.body.insns) n.makes.is n.there;
        finds_by_object = n.makes.finds_by_object;
      }
