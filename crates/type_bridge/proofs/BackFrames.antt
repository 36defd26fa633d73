-- The kinds of a position, from names back to numbers: what they are, their order, and how writes change them.
use Rattle.std.proofs.Common.{◌≡◌, ℕ, zero, suc, ◌+◌, ◌-◌, ◌<◌, Bool, true, false, true≢false, nat_eq, List, [], ◌∷◌, map, length, Option, Some, None, refl, sym, ap, ◌∙◌, arith}
use Rattle.std.specs.Prelude.{◌&&◌, slice_set, if◌then◌else◌}
use Rattle.class_defs.proofs.Positions.{number_of, same_test}
use Rattle.class_defs.proofs.WellFormed.{and_left, and_right}
use Rattle.program_model.specs.declared.program.Program.{Program}
use Rattle.dalvik_defs.specs.Names.{Text, text_eq}
use Rattle.dalvik_defs.specs.Naming.{type_at, named}
use Rattle.dalvik_defs.proofs.Calm.{text_sound}
use Rattle.name_bridge.proofs.Classes.{type_test}
use Rattle.pass_defs.specs.Kinds as name
use Rattle.pass_defs.specs.Kinds.{Kind, Undefined, Zero, Word, Low, High, Null, Class as ClassKind, Array, Reference, Fresh, FreshThis, kind_eq, is_below}
use Rattle.pass_defs.specs.Registers as by_name
use Rattle.pass_defs.specs.Demands as asked
use Rattle.verify.specs.declared.kinds.Kind as number
use Rattle.verify.specs.declared.kinds.Kind.TheVariants as kind
use Rattle.verify.specs.declared.tables.Tables.{Tables}
use Rattle.verify.specs.Frames.{Kinds, kind_at, is_pair, cleared, split, written_one, written_pair, written_kinds, written, replace, forget}
use Rattle.verify.specs.Kinds as kinds
use Rattle.verify.specs.Kinds.{same_kind, forgotten, replaced}
use Rattle.verify.specs.Typings.{Below, IsBelow}
use Rattle.type_bridge.proofs.Back.{type_or, numbered, for_class, for_array, some_dimension, type_is, below_number}
use Rattle.type_bridge.proofs.Frames.{number_swaps, mapped}
use Rattle.type_bridge.proofs.Numbers.{type_named, type_back}
use Rattle.type_bridge.proofs.Told.{Told}

abbrev pub kinds_numbered : Program → by_name.Kinds → Kinds
kinds_numbered p a = record {
  registers = map (numbered p) a.registers;
  result = numbered p a.result;
  caught = numbered p a.caught;
  receiver = numbered p a.receiver;
}

-- ---- sorts of kinds

pub low_back : (p : Program) (k : Kind) → same_kind (numbered p k) kind.WideLow ≡ kind_eq k Low
low_back p (ClassKind u) = for_class p (λ x. same_kind x kind.WideLow ≡ false) u refl (λ c. refl)
low_back p (Array u) = for_array p (λ x. same_kind x kind.WideLow ≡ false) u refl (λ n i. refl)
low_back p k = refl

pub high_back : (p : Program) (k : Kind) → same_kind (numbered p k) kind.WideHigh ≡ kind_eq k High
high_back p (ClassKind u) = for_class p (λ x. same_kind x kind.WideHigh ≡ false) u refl (λ c. refl)
high_back p (Array u) = for_array p (λ x. same_kind x kind.WideHigh ≡ false) u refl (λ n i. refl)
high_back p k = refl

pub this_back : (p : Program) (k : Kind) → same_kind (numbered p k) kind.FreshThis ≡ kind_eq k FreshThis
this_back p (ClassKind u) = for_class p (λ x. same_kind x kind.FreshThis ≡ false) u refl (λ c. refl)
this_back p (Array u) = for_array p (λ x. same_kind x kind.FreshThis ≡ false) u refl (λ n i. refl)
this_back p k = refl

pub number_back : (p : Program) (k : Kind) → kinds.is_number (numbered p k) ≡ name.is_number k
number_back p (ClassKind u) = for_class p (λ x. kinds.is_number x ≡ false) u refl (λ c. refl)
number_back p (Array u) = for_array p (λ x. kinds.is_number x ≡ false) u refl (λ n i. refl)
number_back p k = refl

pub made_back : (p : Program) (k : Kind) → kinds.is_initialised (numbered p k) ≡ name.is_initialised k
made_back p (ClassKind u) = for_class p (λ x. kinds.is_initialised x ≡ true) u refl (λ c. refl)
made_back p (Array u) = for_array p (λ x. kinds.is_initialised x ≡ true) u refl (λ n i. some_dimension n)
made_back p k = refl

pub moved_back : (p : Program) (k : Kind) → kinds.is_moved (numbered p k) ≡ asked.is_moved k
moved_back p (ClassKind u) = for_class p (λ x. kinds.is_moved x ≡ true) u refl (λ c. refl)
moved_back p (Array u) = for_array p (λ x. kinds.is_moved x ≡ true) u refl (λ n i. refl)
moved_back p k = refl

-- ---- kinds at registers

pub at_back : (p : Program) (ks : List Kind) (r : ℕ) → kind_at (map (numbered p) ks) r ≡ numbered p (by_name.kind_at ks r)
at_back p [] r = refl
at_back p (k ∷ ks) zero = refl
at_back p (k ∷ ks) (suc r) = at_back p ks r

pub pair_back : (p : Program) (ks : List Kind) (r : ℕ) → is_pair (map (numbered p) ks) r ≡ (kind_eq (by_name.kind_at ks r) Low && kind_eq (by_name.kind_at ks (r + 1)) High)
pair_back p ks r =
    ap (λ k. same_kind k kind.WideLow && same_kind (kind_at (map (numbered p) ks) (r + 1)) kind.WideHigh) (at_back p ks r)
    ∙ ap (λ k. same_kind (numbered p (by_name.kind_at ks r)) kind.WideLow && same_kind k kind.WideHigh) (at_back p ks (r + 1))
    ∙ ap (λ b. b && same_kind (numbered p (by_name.kind_at ks (r + 1))) kind.WideHigh) (low_back p (by_name.kind_at ks r))
    ∙ ap (λ b. kind_eq (by_name.kind_at ks r) Low && b) (high_back p (by_name.kind_at ks (r + 1)))

-- ---- writes

set_back : (p : Program) (ks : List Kind) (r : ℕ) (k : Kind) → slice_set (map (numbered p) ks) r (numbered p k) ≡ map (numbered p) (slice_set ks r k)
set_back p [] r k = refl
set_back p (x ∷ ks) zero k = refl
set_back p (x ∷ ks) (suc r) k = ap (λ ys. numbered p x ∷ ys) (set_back p ks r k)

cleared_by : (p : Program) (ks : List Kind) (r : ℕ) (a b : Bool) → a ≡ b → (if a then slice_set (map (numbered p) ks) r kind.Undefined else map (numbered p) ks) ≡ map (numbered p) (if b then slice_set ks r Undefined else ks)
cleared_by p ks r true true e = set_back p ks r Undefined
cleared_by p ks r false false e = refl
cleared_by p ks r true false e = absurd (true≢false e)
cleared_by p ks r false true e = absurd (true≢false (sym e))

low_cleared : (p : Program) (r : ℕ) (ks : List Kind) → cleared r kind.WideLow (map (numbered p) ks) ≡ map (numbered p) (by_name.cleared r Low ks)
low_cleared p r ks = cleared_by p ks r (same_kind (kind_at (map (numbered p) ks) r) kind.WideLow) (kind_eq (by_name.kind_at ks r) Low) (ap (λ k. same_kind k kind.WideLow) (at_back p ks r) ∙ low_back p (by_name.kind_at ks r))

high_cleared : (p : Program) (r : ℕ) (ks : List Kind) → cleared r kind.WideHigh (map (numbered p) ks) ≡ map (numbered p) (by_name.cleared r High ks)
high_cleared p r ks = cleared_by p ks r (same_kind (kind_at (map (numbered p) ks) r) kind.WideHigh) (kind_eq (by_name.kind_at ks r) High) (ap (λ k. same_kind k kind.WideHigh) (at_back p ks r) ∙ high_back p (by_name.kind_at ks r))

split_back : (p : Program) (r : ℕ) (ks : List Kind) → split r (map (numbered p) ks) ≡ map (numbered p) (by_name.split r ks)
split_back p r ks = ap (cleared (r - 1) kind.WideLow) (high_cleared p (r + 1) ks) ∙ low_cleared p (r - 1) (by_name.cleared (r + 1) High ks)

one_back : (p : Program) (r : ℕ) (k : Kind) (ks : List Kind) → written_one r (numbered p k) (map (numbered p) ks) ≡ map (numbered p) (by_name.written_one r k ks)
one_back p r k ks = ap (λ l. slice_set l r (numbered p k)) (split_back p r ks) ∙ set_back p (by_name.split r ks) r k

pair_written : (p : Program) (r : ℕ) (ks : List Kind) → written_pair r (map (numbered p) ks) ≡ map (numbered p) (by_name.written_pair r ks)
pair_written p r ks =
    ap (λ l. slice_set (slice_set (split (r + 1) l) r kind.WideLow) (r + 1) kind.WideHigh) (split_back p r ks)
    ∙ ap (λ l. slice_set (slice_set l r kind.WideLow) (r + 1) kind.WideHigh) (split_back p (r + 1) (by_name.split r ks))
    ∙ ap (λ l. slice_set l (r + 1) kind.WideHigh) (set_back p (by_name.split (r + 1) (by_name.split r ks)) r Low)
    ∙ set_back p (slice_set (by_name.split (r + 1) (by_name.split r ks)) r Low) (r + 1) High

pub written_back : (p : Program) (r : ℕ) (k : Kind) (ks : List Kind) → written_kinds r (numbered p k) (map (numbered p) ks) ≡ map (numbered p) (by_name.written_kinds r k ks)
written_back p r Low ks = pair_written p r ks
written_back p r (ClassKind u) ks = for_class p (λ x. written_kinds r x (map (numbered p) ks) ≡ written_one r x (map (numbered p) ks)) u refl (λ c. refl) ∙ one_back p r (ClassKind u) ks
written_back p r (Array u) ks = for_array p (λ x. written_kinds r x (map (numbered p) ks) ≡ written_one r x (map (numbered p) ks)) u refl (λ n i. refl) ∙ one_back p r (Array u) ks
written_back p r k ks = one_back p r k ks

pub wrote_back : (p : Program) (r : ℕ) (k : Kind) (a : by_name.Kinds) → written r (numbered p k) (kinds_numbered p a) ≡ kinds_numbered p (by_name.written r k a)
wrote_back p r k a = ap (λ l. record (kinds_numbered p a) { registers = l }) (written_back p r k a.registers)

-- ---- what was made at a position

forgotten_back : (p : Program) (n : ℕ) (k : Kind) → forgotten n (numbered p k) ≡ numbered p (by_name.forgotten n k)
forgotten_back p n (Fresh u m) = ap (λ b. if b then kind.Undefined else kind.Fresh (type_or p u (type_named p u)) m) (number_swaps m n) ∙ by (nat_eq n m)
  where
    by : (b : Bool) → (if b then kind.Undefined else kind.Fresh (type_or p u (type_named p u)) m) ≡ numbered p (elim b as (λ b. Kind) [ true ↦ Undefined | false ↦ Fresh u m ])
    by true = refl
    by false = refl
forgotten_back p n (ClassKind u) = for_class p (λ x. forgotten n x ≡ x) u refl (λ c. refl)
forgotten_back p n (Array u) = for_array p (λ x. forgotten n x ≡ x) u refl (λ m i. refl)
forgotten_back p n k = refl

pub forgot_back : (p : Program) (n : ℕ) (a : by_name.Kinds) → forget n (kinds_numbered p a) ≡ kinds_numbered p (by_name.forget n a)
forgot_back p n a = ap (λ l. record (kinds_numbered p a) { registers = l }) (mapped (numbered p) (forgotten n) (by_name.forgotten n) (forgotten_back p n) a.registers)

-- ---- the order

module _ (p : Program) (t : Tables) (d : Told p t) where
  record AreUnder (ks ls : List Kind) : Type 0 where
    pub long : length (map (numbered p) ks) ≡ length (map (numbered p) ls)
    pub each : (r : ℕ) → Below t (kind_at (map (numbered p) ks) r) (kind_at (map (numbered p) ls) r)

  under_more : (k l : Kind) (ks ls : List Kind) → Below t (numbered p k) (numbered p l) → AreUnder ks ls → AreUnder (k ∷ ks) (l ∷ ls)
  under_more k l ks ls e rest = record { long = ap suc rest.long; each = each }
    where
      each : (r : ℕ) → Below t (kind_at (map (numbered p) (k ∷ ks)) r) (kind_at (map (numbered p) (l ∷ ls)) r)
      each zero = e
      each (suc r) = rest.each r

  all_back : (ks ls : List Kind) → by_name.all_below (named p) ks ls ≡ true → AreUnder ks ls
  all_back [] [] e = record { long = refl; each = λ r. refl }
  all_back [] (l ∷ ls) e = absurd (true≢false (sym e))
  all_back (k ∷ ks) [] e = absurd (true≢false (sym e))
  all_back (k ∷ ks) (l ∷ ls) e = under_more k l ks ls
      (below_number p t d k l (and_left (is_below (named p) k l) (by_name.all_below (named p) ks ls) e))
      (all_back ks ls (and_right (is_below (named p) k l) (by_name.all_below (named p) ks ls) e))

  pub kinds_back : (a b : by_name.Kinds) → by_name.kinds_below (named p) a b ≡ true → IsBelow t (kinds_numbered p a) (kinds_numbered p b)
  kinds_back a b h =
      let w = by_name.all_below (named p) a.registers b.registers in
      let x = is_below (named p) a.result b.result in
      let y = is_below (named p) a.caught b.caught in
      let z = is_below (named p) a.receiver b.receiver in
      let f : (w && x && y) ≡ true = and_left (w && x && y) z h in
      let g : (w && x) ≡ true = and_left (w && x) y f in
      let r = all_back a.registers b.registers (and_left w x g) in
      record {
        long = r.long;
        registers = r.each;
        result = below_number p t d a.result b.result (and_right w x g);
        caught = below_number p t d a.caught b.caught (and_right (w && x) y f);
        receiver = below_number p t d a.receiver b.receiver (and_right (w && x && y) z h);
      }

  -- ---- objects that aren't made

  pub type_number : (c : ℕ) → c < length p.types → type_or p (type_at p c) (type_named p (type_at p c)) ≡ c
  type_number c h = ap (type_or p (type_at p c)) (type_back p t d c h)

  pub fresh_text : (u : Text) (c : ℕ) → c < length p.types → nat_eq (type_or p u (type_named p u)) c ≡ text_eq u (type_at p c)
  fresh_text u c h = by (type_named p u) refl
    where
      by : (o : Option ℕ) → type_named p u ≡ o → nat_eq (type_or p u (type_named p u)) c ≡ text_eq u (type_at p c)
      by (Some k) e =
          let r = type_is p t d u k e in
          ap (λ o. nat_eq (type_or p u o) c) e ∙ sym (type_test p d.sound k c r.0 h) ∙ ap (λ v. text_eq v (type_at p c)) r.1
      by None e = same_test (nat_eq (type_or p u (type_named p u)) c) (text_eq u (type_at p c))
          (λ f. absurd (let g : length p.types + length u ≡ c = ap (type_or p u) (sym e) ∙ number_of (type_or p u (type_named p u)) c f in omega (arith, g, h)))
          (λ f. absurd (let g : None ≡ Some c = sym e ∙ ap (type_named p) (text_sound u (type_at p c) f) ∙ type_back p t d c h in cc))

  fresh_back : (c n : ℕ) → c < length p.types → (k : Kind) → same_kind (numbered p k) (kind.Fresh c n) ≡ kind_eq k (Fresh (type_at p c) n)
  fresh_back c n h (Fresh u m) = ap (λ b. b && nat_eq m n) (fresh_text u c h)
  fresh_back c n h (ClassKind u) = for_class p (λ x. same_kind x (kind.Fresh c n) ≡ false) u refl (λ x. refl)
  fresh_back c n h (Array u) = for_array p (λ x. same_kind x (kind.Fresh c n) ≡ false) u refl (λ m i. refl)
  fresh_back c n h k = refl

  replaced_back : (old : number.Kind) (old' new k : Kind) → same_kind (numbered p k) old ≡ kind_eq k old' → replaced old (numbered p new) (numbered p k) ≡ numbered p (by_name.replaced old' new k)
  replaced_back old old' new k e = ap (λ b. if b then numbered p new else numbered p k) e ∙ by (kind_eq k old')
    where
      by : (b : Bool) → (if b then numbered p new else numbered p k) ≡ numbered p (elim b as (λ b. Kind) [ true ↦ new | false ↦ k ])
      by true = refl
      by false = refl

  replaces : (old : number.Kind) (old' new : Kind) → ((k : Kind) → same_kind (numbered p k) old ≡ kind_eq k old') → (a : by_name.Kinds) → replace old (numbered p new) (kinds_numbered p a) ≡ kinds_numbered p (by_name.replace old' new a)
  replaces old old' new same a =
      ap (λ l. record (kinds_numbered p a) { registers = l; receiver = replaced old (numbered p new) (numbered p a.receiver) })
      (mapped (numbered p) (replaced old (numbered p new)) (by_name.replaced old' new) (λ k. replaced_back old old' new k (same k)) a.registers)
      ∙ ap (λ k. record (kinds_numbered p (by_name.replace old' new a)) { receiver = k }) (replaced_back old old' new a.receiver (same a.receiver))

  pub fresh_replaces : (c n : ℕ) → c < length p.types → (new : Kind) (a : by_name.Kinds) → replace (kind.Fresh c n) (numbered p new) (kinds_numbered p a) ≡ kinds_numbered p (by_name.replace (Fresh (type_at p c) n) new a)
  fresh_replaces c n h new a = replaces (kind.Fresh c n) (Fresh (type_at p c) n) new (fresh_back c n h) a

  pub this_replaces : (new : Kind) (a : by_name.Kinds) → replace kind.FreshThis (numbered p new) (kinds_numbered p a) ≡ kinds_numbered p (by_name.replace FreshThis new a)
  this_replaces new a = replaces kind.FreshThis FreshThis new (this_back p) a
