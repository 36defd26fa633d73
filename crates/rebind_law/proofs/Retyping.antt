-- A typing of a body is one of the body in which calls name another method that it allows.
use Rattle.std.proofs.Common.{◌≡◌, ℕ, zero, suc, ◌+◌, Bool, true, false, true≢false, List, [], ◌∷◌, ◌++◌, Option, Some, None, ◌⊎◌, inl, inr, refl, sym, ap, ap₂, ◌∙◌, subst}
use Rattle.std.specs.Prelude.{◌&&◌, ◌||◌, not, nat_eq, find, length, map, slice_get, is_some, if◌then◌else◌, Contains}
use Rattle.std.specs.List.{list_all}
use Rattle.insn_set.specs.declared.ops.InvokeKind.{InvokeKind}
use Rattle.insn_set.specs.declared.ops.InvokeKind.TheVariants as call
use Rattle.dalvik_defs.specs.Silence.{key_in}
use Rattle.dalvik_defs.specs.declared.forms.Form.{Form}
use Rattle.dalvik_defs.specs.declared.forms.Form.TheVariants as form
use Rattle.dalvik_defs.specs.declared.names.MethodKey.{MethodKey}
use Rattle.dalvik_defs.specs.declared.names.Signature.{Signature}
use Rattle.dalvik_defs.specs.declared.program.NamedBody.{NamedBody}
use Rattle.dalvik_defs.specs.declared.program.NamedClass.{NamedClass}
use Rattle.dalvik_defs.specs.declared.program.NamedMethod.{NamedMethod}
use Rattle.dalvik_defs.specs.declared.program.NamedProgram.{NamedProgram}
use Rattle.dalvik_defs.specs.declared.program.NamedRegion.{NamedRegion}
use Rattle.pass_defs.specs.Bare.{may_throw}
use Rattle.pass_defs.specs.Bindable.{is_virtual_call}
use Rattle.pass_defs.specs.Demands.{Constructed, Fits, meets, passed, is_constructor_name, is_allowed}
use Rattle.pass_defs.specs.Kinds.{kind_of}
use Rattle.pass_defs.specs.Registers.{Kinds, kind_at, state_below}
use Rattle.pass_defs.specs.Typed.{Table, state_at, at_state, each, arrives, edges, after, begun, constructed, receiver_register, is_static_call, catches_in, is_wrong, wrong_method, words_of, IsTyping, IsTyped}
use Rattle.pass_defs.specs.Walks.{form_at, is_covered, region_at, onward}
use Rattle.program_laws.specs.Others.{OtherBodies}
use Rattle.program_laws.proofs.Typed.{others_typed}
use Rattle.rebind_law.specs.Retyping.{Retypes, IsRetyped, Retyped, NoCode, Kept, Changed}

some_is : {A : Type 0} (x y : A) → Some x ≡ Some y → x ≡ y
some_is x y e = ap (λ o. elim o [ Some z ↦ z | None ↦ x ]) e

and_right : (a b : Bool) → (a && b) ≡ true → b ≡ true
and_right true b e = e
and_right false b e = absurd (true≢false (sym e))

and_both : (a b : Bool) → a ≡ true → b ≡ true → (a && b) ≡ true
and_both a b e i = ap (λ x. x && b) e ∙ i

-- lists that have items at the same places are as long
same_long : {A : Type 0} (xs ys : List A) → ((n : ℕ) (x : A) → slice_get xs n ≡ Some x → is_some (slice_get ys n) ≡ true) → ((n : ℕ) → slice_get xs n ≡ None → slice_get ys n ≡ None) → length ys ≡ length xs
same_long [] [] there none = refl
same_long [] (y ∷ ys) there none = absurd (true≢false (ap is_some (none 0 refl)))
same_long (x ∷ xs) [] there none = absurd (true≢false (sym (there 0 x refl)))
same_long (x ∷ xs) (y ∷ ys) there none = ap suc (same_long xs ys (λ n z e. there (suc n) z e) (λ n e. none (suc n) e))

each_more : (k : ℕ) (f g : ℕ → Bool) → ((n : ℕ) → f n ≡ true → g n ≡ true) → each k f ≡ true → each k g ≡ true
each_more zero f g h e = refl
each_more (suc k) f g h e = and_both (each k g) (g k) (each_more k f g h (first (each k f) (f k) e)) (h k (and_right (each k f) (f k) e))
  where
    first : (a b : Bool) → (a && b) ≡ true → a ≡ true
    first true b i = refl
    first false b i = absurd (true≢false (sym i))

module _ (p : NamedProgram) (c : NamedClass) (m : NamedMethod) where
  -- ---- one call

  module _ (a : Kinds) (f f' : Form) (h : Retypes p a f f') where
    abbrev old : MethodKey
    old = h.call.old

    abbrev new : MethodKey
    new = h.call.new

    abbrev met : MethodKey → Bool
    met k = meets p c a.registers h.call.on (if is_constructor_name k.name then Constructed k.class else Fits k.class)

    abbrev rest : MethodKey → Bool
    rest k = list_all (λ d. meets p c a.registers d.0 d.1) (passed k.signature.parameters h.call.args)

    plain_new : is_constructor_name new.name ≡ false
    plain_new = h.ordinary

    asks : (kind : InvokeKind) (k : MethodKey) → is_virtual_call kind ≡ true → is_allowed p c m a (form.Invoke kind k (h.call.on ∷ h.call.args)) ≡ (met k && rest k)
    asks call.Virtual k v = refl
    asks call.Interface k v = refl
    asks call.Static k v = absurd (true≢false (sym v))
    asks call.Direct k v = absurd (true≢false (sym v))
    asks call.Super k v = absurd (true≢false (sym v))

    allowed : is_allowed p c m a f ≡ true → is_allowed p c m a f' ≡ true
    allowed e =
        let before : (met old && rest old) ≡ true = sym (asks h.call.kind old h.call.virtual) ∙ (ap (is_allowed p c m a) (sym h.call.first) ∙ e) in
        let others : rest new ≡ true = ap (λ (s : Signature). list_all (λ d. meets p c a.registers d.0 d.1) (passed s.parameters h.call.args)) h.signature ∙ and_right (met old) (rest old) before in
        let first : met new ≡ true = ap (λ b. meets p c a.registers h.call.on (if b then Constructed new.class else Fits new.class)) plain_new ∙ h.fits in
        ap (is_allowed p c m a) h.call.second ∙ (asks h.call.kind' new h.call.virtual' ∙ and_both (met new) (rest new) first others)

    abbrev counts : MethodKey → Bool
    counts k = not (nat_eq (length (h.call.on ∷ h.call.args)) (1 + words_of k.signature.parameters))

    faults : (kind : InvokeKind) (k : MethodKey) → is_virtual_call kind ≡ true → is_wrong p c m a (form.Invoke kind k (h.call.on ∷ h.call.args)) ≡ ((wrong_method p kind k || false) || counts k)
    faults call.Virtual k v = refl
    faults call.Interface k v = refl
    faults call.Static k v = absurd (true≢false (sym v))
    faults call.Direct k v = absurd (true≢false (sym v))
    faults call.Super k v = absurd (true≢false (sym v))

    right : not (is_wrong p c m a f) ≡ true → not (is_wrong p c m a f') ≡ true
    right e =
        let before : not ((wrong_method p h.call.kind old || false) || counts old) ≡ true = ap not (sym (faults h.call.kind old h.call.virtual)) ∙ (ap (λ x. not (is_wrong p c m a x)) (sym h.call.first) ∙ e) in
        let count : counts new ≡ false = ap (λ (s : Signature). not (nat_eq (length (h.call.on ∷ h.call.args)) (1 + words_of s.parameters))) h.signature ∙ last (wrong_method p h.call.kind old) (counts old) before in
        ap (λ x. not (is_wrong p c m a x)) h.call.second ∙ (ap not (faults h.call.kind' new h.call.virtual') ∙ ap₂ (λ x y. not ((x || false) || y)) h.right count)
      where
        last : (x y : Bool) → not ((x || false) || y) ≡ true → y ≡ false
        last true y i = absurd (true≢false (sym i))
        last false true i = absurd (true≢false (sym i))
        last false false i = refl

    leaves : (kind : InvokeKind) (k : MethodKey) (n : ℕ) → is_constructor_name k.name ≡ false → after p c n (form.Invoke kind k (h.call.on ∷ h.call.args)) a ≡ record a { result = kind_of p k.signature.result }
    leaves kind k n e = ap (λ b. called_by kind k b) e
      where
        called_by : InvokeKind → MethodKey → Bool → Kinds
        called_by kind k b = let y : Kinds = if b && not (is_static_call kind) then constructed p c (kind_at a.registers (receiver_register (h.call.on ∷ h.call.args))) a else a in record y { result = kind_of p k.signature.result }

    same_after : (n : ℕ) → after p c n f' a ≡ after p c n f a
    same_after n = ap (λ x. after p c n x a) h.call.second ∙ (leaves h.call.kind' new n plain_new
        ∙ (ap (λ (s : Signature). record a { result = kind_of p s.result }) h.signature
        ∙ (sym (leaves h.call.kind old n h.call.plain_name) ∙ ap (λ x. after p c n x a) (sym h.call.first))))

    same_edges : (b d : NamedBody) (n : ℕ) → d.regions ≡ b.regions → edges p c d n f' a ≡ edges p c b n f a
    same_edges b d n e =
        ap₂ (λ x y. map (λ q. (q, y)) (onward x n) ++ map (λ h. (h.0, record a { caught = h.1 })) (if may_throw x then catches_in p (region_at d n) else [])) h.call.second (same_after n)
        ∙ (ap (λ (r : Option NamedRegion). map (λ q. (q, after p c n f a)) ((n + 1) ∷ []) ++ map (λ h. (h.0, record a { caught = h.1 })) (catches_in p r)) (same_region b d n e)
        ∙ sym (ap (λ x. map (λ q. (q, after p c n f a)) (onward x n) ++ map (λ h. (h.0, record a { caught = h.1 })) (if may_throw x then catches_in p (region_at b n) else [])) h.call.first))
      where
        same_region : (b d : NamedBody) (n : ℕ) → d.regions ≡ b.regions → region_at d n ≡ region_at b n
        same_region b d n e = ap (λ rs. find (is_covered n) rs) e

  -- ---- a body

  module _ (b d : NamedBody) (h : IsRetyped p c m b d) where
    abbrev t : Table
    t = h.table

    long : length d.forms ≡ length b.forms
    long = same_long b.forms d.forms (λ n f e. ap is_some (h.changed.forms n f e).1.0) h.changed.ends

    -- a test at a position, and another one of what stands there now
    at_both : (n : ℕ) (test test' : Form → Kinds → Bool) → ((f f' : Form) (a : Kinds) → (f' ≡ f) ⊎ Retypes p a f f' → test f a ≡ true → test' f' a ≡ true) → at_state b t test n ≡ true → at_state d t test' n ≡ true
    at_both n test test' to e = by (form_at b n) refl e
      where
        abbrev_at : (Form → Kinds → Bool) → Option Form → Option Kinds → Bool
        abbrev_at test x s = elim x as (λ x. Bool) [ Some f ↦ elim s as (λ s. Bool) [ Some a ↦ test f a | None ↦ true ] | None ↦ true ]

        inside : (f f' : Form) → (f' ≡ f) ⊎ ((a : Kinds) → state_at t n ≡ Some a → Retypes p a f f') → (s : Option Kinds) → state_at t n ≡ s → abbrev_at test (Some f) s ≡ true → abbrev_at test' (Some f') s ≡ true
        inside f f' r None i j = refl
        inside f f' (inl k) (Some a) i j = to f f' a (inl k) j
        inside f f' (inr k) (Some a) i j = to f f' a (inr (k a i)) j

        by : (x : Option Form) → form_at b n ≡ x → abbrev_at test x (state_at t n) ≡ true → at_state d t test' n ≡ true
        by None i j = ap (λ x. abbrev_at test' x (state_at t n)) (h.changed.ends n i)
        by (Some f) i j = let r = h.changed.forms n f i in ap (λ x. abbrev_at test' x (state_at t n)) r.1.0 ∙ inside f r.0 r.1.1 (state_at t n) refl j

    same_or : (A : Form → Type 0) (f f' : Form) → f' ≡ f → A f → A f'
    same_or A f f' e x = subst A (sym e) x

    reads_to : (f f' : Form) (a : Kinds) → (f' ≡ f) ⊎ Retypes p a f f' → is_allowed p c m a f ≡ true → is_allowed p c m a f' ≡ true
    reads_to f f' a (inl e) i = same_or (λ x. is_allowed p c m a x ≡ true) f f' e i
    reads_to f f' a (inr r) i = allowed a f f' r i

    right_to : (f f' : Form) (a : Kinds) → (f' ≡ f) ⊎ Retypes p a f f' → not (is_wrong p c m a f) ≡ true → not (is_wrong p c m a f') ≡ true
    right_to f f' a (inl e) i = same_or (λ x. not (is_wrong p c m a x) ≡ true) f f' e i
    right_to f f' a (inr r) i = right a f f' r i

    same_region : (n : ℕ) → region_at d n ≡ region_at b n
    same_region n = ap (λ rs. find (is_covered n) rs) h.changed.regions

    edges_to : (n : ℕ) (f f' : Form) (a : Kinds) → (f' ≡ f) ⊎ Retypes p a f f' → list_all (arrives p t) (edges p c b n f a) ≡ true → list_all (arrives p t) (edges p c d n f' a) ≡ true
    edges_to n f f' a (inl e) i = ap (λ x. list_all (arrives p t) (edges p c d n x a)) e
        ∙ (ap (λ (r : Option NamedRegion). list_all (arrives p t) (map (λ q. (q, after p c n f a)) (onward f n) ++ map (λ h. (h.0, record a { caught = h.1 })) (if may_throw f then catches_in p r else []))) (same_region n) ∙ i)
    edges_to n f f' a (inr r) i = ap (list_all (arrives p t)) (same_edges a f f' r b d n h.changed.regions) ∙ i

    pub retyped_typing : IsTyping p c m d t
    retyped_typing = record {
      long = h.typing.long ∙ sym long;
      entry = ap (λ k. state_below p (Some k) (state_at t 0)) same_begun ∙ h.typing.entry;
      reads = ap (λ k. each k (at_state d t (λ f a. is_allowed p c m a f))) long ∙ each_more (length b.forms) (at_state b t (λ f a. is_allowed p c m a f)) (at_state d t (λ f a. is_allowed p c m a f))
          (λ n. at_both n (λ f a. is_allowed p c m a f) (λ f a. is_allowed p c m a f) reads_to) h.typing.reads;
      right = ap (λ k. each k (at_state d t (λ f a. not (is_wrong p c m a f)))) long ∙ each_more (length b.forms) (at_state b t (λ f a. not (is_wrong p c m a f))) (at_state d t (λ f a. not (is_wrong p c m a f)))
          (λ n. at_both n (λ f a. not (is_wrong p c m a f)) (λ f a. not (is_wrong p c m a f)) right_to) h.typing.right;
      edges = ap (λ k. each k (λ n. at_state d t (λ f a. list_all (arrives p t) (edges p c d n f a)) n)) long
          ∙ each_more (length b.forms) (λ n. at_state b t (λ f a. list_all (arrives p t) (edges p c b n f a)) n) (λ n. at_state d t (λ f a. list_all (arrives p t) (edges p c d n f a)) n)
          (λ n. at_both n (λ f a. list_all (arrives p t) (edges p c b n f a)) (λ f a. list_all (arrives p t) (edges p c d n f a)) (edges_to n)) h.typing.edges;
    }
      where
        same_begun : begun p c m d ≡ begun p c m b
        same_begun = ap₂ (λ x y. begun p c m (record b { registers = x; ins = y })) h.changed.registers h.changed.ins

-- ---- a program

-- a typed program in which calls name another method that the typings allow is typed
pub retyped_program : (p q : NamedProgram) → IsTyped p → OtherBodies (Retyped p) p q → IsTyped q
retyped_program p q typed h = others_typed (Retyped p) p q h new_typed
  where
    new_typed : (c : NamedClass) (m : NamedMethod) (b : NamedBody) → Contains p.classes c → Contains c.methods m → Retyped p (key_in c m) m.body (Some b) → (t : Table) × IsTyping p c m b t
    new_typed c m b i j h = by m.body (Some b) refl refl h
      where
        by : (x y : Option NamedBody) → m.body ≡ x → Some b ≡ y → Retyped p (key_in c m) x y → (t : Table) × IsTyping p c m b t
        by _ _ e d NoCode = absurd (true≢false (ap is_some d))
        by _ _ e d (Kept a) = subst (λ z. (t : Table) × IsTyping p c m z t) (sym (some_is b a d)) (typed.bodies c m a i j e)
        by _ _ e d (Changed a z r) = let w = r c m i j refl e in subst (λ z. (t : Table) × IsTyping p c m z t) (sym (some_is b z d)) (w.table, retyped_typing p c m a z w)
