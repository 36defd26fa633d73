-- A body with new numbers keeps the rules of bodies.
use Rattle.std.proofs.Common.{◌≡◌, ℕ, ◌+◌, ◌*◌, ◌-◌, true, not, List, [], ◌∷◌, length, map, refl, ap, ap₂, ◌∙◌, Option, Some, None}
use Rattle.std.specs.Prelude.{◌&&◌, ◌||◌, is_some, nat_eq, nat_le, nat_lt, slice_get, flat_map}
use Rattle.std.specs.Option.{option_map}
use Rattle.std.specs.List.{AllByRecursion, list_all, enumerate_from}
use Rattle.lemmas.proofs.Bools.{and_both, and_left, and_right}
use Rattle.lemmas.proofs.Lists.{get_map, map_long}
use Rattle.insn_set.specs.Flow.{goes_on, targets_of}
use Rattle.insn_set.specs.Spelling.{is_encodable}
use Rattle.insn_set.specs.declared.form.Insn.{Insn}
use Rattle.insn_set.specs.declared.form.Insn.TheVariants as insn
use Rattle.dex_pools.specs.declared.interner.Interner.{Interner}
use Rattle.dex_pools.specs.declared.used.Named.{Named}
use Rattle.dex_pools.specs.Interned.{IsInterned}
use Rattle.dex_pools.specs.Numbering.{used_in}
use Rattle.dex_pools.specs.Used.{insn_names, handler_names, region_names, body_names}
use Rattle.program_model.specs.BodyRules.{ends, has_result, may_follow, follows, may_enter, targets_fit, leaves, is_rest, handles_at, is_caught, insn_fits, body_fits}
use Rattle.program_model.specs.Cells.{entries_of, body_cells}
use Rattle.program_model.specs.Items.{rest_items, region_items, body_items}
use Rattle.program_model.specs.Neighbours.{neighbours}
use Rattle.program_model.specs.OperandRules.{registers_fit, numbers_fit}
use Rattle.program_model.specs.RegionRules.{may_begin, handler_fits, rest_fits, catches, region_fits, are_apart, regions_fit}
use Rattle.program_model.specs.Texts.{has_type}
use Rattle.program_model.specs.declared.body.Handler.{Handler}
use Rattle.program_model.specs.declared.body.Region.{Region}
use Rattle.program_model.specs.declared.body.Body.{Body}
use Rattle.program_model.specs.declared.pass.Renumber.{Renumber}
use Rattle.program_model.specs.declared.program.Program.{Program}
use Rattle.dex_defs.specs.Written.{new_insn, new_handler, new_region, new_body, new_type, written_by}
use Rattle.write_laws.specs.Used.{IsUsed, IsShort}
use Rattle.write_laws.proofs.Marking.{all_left, all_right}
use Rattle.written_kept.proofs.Kept.{string_kept, type_kept, field_kept, method_kept}
use Rattle.written_kept.proofs.Lists.{all_named, any_map, side_map, sum_map, sum_same}

-- ---- what of an instruction is no number of a table

pub record Alike (x y : Insn) : Type 0 where
  pub goes : goes_on y ≡ goes_on x
  pub targets : targets_of y ≡ targets_of x
  pub encodable : is_encodable y ≡ is_encodable x
  pub registers : (n : ℕ) → registers_fit y n ≡ registers_fit x n
  pub result : has_result y ≡ has_result x
  pub behind : (z : Insn) → may_follow z y ≡ may_follow z x
  pub enters : may_enter (Some y) ≡ may_enter (Some x)
  pub begins : may_begin (Some y) ≡ may_begin (Some x)
  pub leaves : (n : ℕ) → leaves n y ≡ leaves n x
  pub caught : (rs : List Region) (n : ℕ) → is_caught rs n y ≡ is_caught rs n x
  pub entries : entries_of y ≡ entries_of x

itself : (x : Insn) → Alike x x
itself x = record { goes = refl; targets = refl; encodable = refl; registers = λ n. refl; result = refl; behind = λ z. refl; enters = refl; begins = refl; leaves = λ n. refl; caught = λ rs n. refl; entries = refl }

pub alike : (r : Renumber) (x : Insn) → Alike x (new_insn r x)
unfolding registers_fit
alike r insn.Nop = itself insn.Nop
alike r (insn.Move slot to from) = itself (insn.Move slot to from)
alike r (insn.MoveResult slot to) = itself (insn.MoveResult slot to)
alike r (insn.MoveException to) = itself (insn.MoveException to)
alike r insn.ReturnVoid = itself insn.ReturnVoid
alike r (insn.Return slot from) = itself (insn.Return slot from)
alike r (insn.Const to value) = itself (insn.Const to value)
alike r (insn.ConstWide to value) = itself (insn.ConstWide to value)
alike r (insn.ConstString to string) = record { goes = refl; targets = refl; encodable = refl; registers = λ n. refl; result = refl; behind = λ z. refl; enters = refl; begins = refl; leaves = λ n. refl; caught = λ rs n. refl; entries = refl }
alike r (insn.ConstClass to kind) = record { goes = refl; targets = refl; encodable = refl; registers = λ n. refl; result = refl; behind = λ z. refl; enters = refl; begins = refl; leaves = λ n. refl; caught = λ rs n. refl; entries = refl }
alike r (insn.MonitorEnter on) = itself (insn.MonitorEnter on)
alike r (insn.MonitorExit on) = itself (insn.MonitorExit on)
alike r (insn.CheckCast on kind) = record { goes = refl; targets = refl; encodable = refl; registers = λ n. refl; result = refl; behind = λ z. refl; enters = refl; begins = refl; leaves = λ n. refl; caught = λ rs n. refl; entries = refl }
alike r (insn.InstanceOf to from kind) = record { goes = refl; targets = refl; encodable = refl; registers = λ n. refl; result = refl; behind = λ z. refl; enters = refl; begins = refl; leaves = λ n. refl; caught = λ rs n. refl; entries = refl }
alike r (insn.ArrayLength to from) = itself (insn.ArrayLength to from)
alike r (insn.NewInstance to kind) = record { goes = refl; targets = refl; encodable = refl; registers = λ n. refl; result = refl; behind = λ z. refl; enters = refl; begins = refl; leaves = λ n. refl; caught = λ rs n. refl; entries = refl }
alike r (insn.NewArray to size kind) = record { goes = refl; targets = refl; encodable = refl; registers = λ n. refl; result = refl; behind = λ z. refl; enters = refl; begins = refl; leaves = λ n. refl; caught = λ rs n. refl; entries = refl }
alike r (insn.FilledNewArray kind args) = record { goes = refl; targets = refl; encodable = refl; registers = λ n. refl; result = refl; behind = λ z. refl; enters = refl; begins = refl; leaves = λ n. refl; caught = λ rs n. refl; entries = refl }
alike r (insn.FillArray on width items) = itself (insn.FillArray on width items)
alike r (insn.Throw on) = itself (insn.Throw on)
alike r (insn.Goto target) = itself (insn.Goto target)
alike r (insn.PackedSwitch on first targets) = itself (insn.PackedSwitch on first targets)
alike r (insn.SparseSwitch on keys targets) = itself (insn.SparseSwitch on keys targets)
alike r (insn.Cmp op to a b) = itself (insn.Cmp op to a b)
alike r (insn.If test a b target) = itself (insn.If test a b target)
alike r (insn.IfZero test a target) = itself (insn.IfZero test a target)
alike r (insn.ArrayGet item to array index) = itself (insn.ArrayGet item to array index)
alike r (insn.ArrayPut item from array index) = itself (insn.ArrayPut item from array index)
alike r (insn.InstanceGet item to on field) = record { goes = refl; targets = refl; encodable = refl; registers = λ n. refl; result = refl; behind = λ z. refl; enters = refl; begins = refl; leaves = λ n. refl; caught = λ rs n. refl; entries = refl }
alike r (insn.InstancePut item from on field) = record { goes = refl; targets = refl; encodable = refl; registers = λ n. refl; result = refl; behind = λ z. refl; enters = refl; begins = refl; leaves = λ n. refl; caught = λ rs n. refl; entries = refl }
alike r (insn.StaticGet item to field) = record { goes = refl; targets = refl; encodable = refl; registers = λ n. refl; result = refl; behind = λ z. refl; enters = refl; begins = refl; leaves = λ n. refl; caught = λ rs n. refl; entries = refl }
alike r (insn.StaticPut item from field) = record { goes = refl; targets = refl; encodable = refl; registers = λ n. refl; result = refl; behind = λ z. refl; enters = refl; begins = refl; leaves = λ n. refl; caught = λ rs n. refl; entries = refl }
alike r (insn.Invoke kind method args) = record { goes = refl; targets = refl; encodable = refl; registers = λ n. refl; result = refl; behind = λ z. refl; enters = refl; begins = refl; leaves = λ n. refl; caught = λ rs n. refl; entries = refl }
alike r (insn.Unary op to from) = itself (insn.Unary op to from)
alike r (insn.Binary op to a b) = itself (insn.Binary op to a b)
alike r (insn.Literal op to a value) = itself (insn.Literal op to a value)

module _ (r : Renumber) where
  -- which may follow which, by the one in front and the one behind
  behind_same : (x y : Insn) → has_result y ≡ has_result x → goes_on y ≡ goes_on x → (z : Insn) → may_follow y z ≡ may_follow x z
  behind_same x y e f insn.Nop = refl
  behind_same x y e f (insn.Move slot to from) = refl
  behind_same x y e f (insn.MoveResult slot to) = e
  behind_same x y e f (insn.MoveException to) = ap not f
  behind_same x y e f insn.ReturnVoid = refl
  behind_same x y e f (insn.Return slot from) = refl
  behind_same x y e f (insn.Const to value) = refl
  behind_same x y e f (insn.ConstWide to value) = refl
  behind_same x y e f (insn.ConstString to string) = refl
  behind_same x y e f (insn.ConstClass to kind) = refl
  behind_same x y e f (insn.MonitorEnter on) = refl
  behind_same x y e f (insn.MonitorExit on) = refl
  behind_same x y e f (insn.CheckCast on kind) = refl
  behind_same x y e f (insn.InstanceOf to from kind) = refl
  behind_same x y e f (insn.ArrayLength to from) = refl
  behind_same x y e f (insn.NewInstance to kind) = refl
  behind_same x y e f (insn.NewArray to size kind) = refl
  behind_same x y e f (insn.FilledNewArray kind args) = refl
  behind_same x y e f (insn.FillArray on width items) = refl
  behind_same x y e f (insn.Throw on) = refl
  behind_same x y e f (insn.Goto target) = refl
  behind_same x y e f (insn.PackedSwitch on first targets) = refl
  behind_same x y e f (insn.SparseSwitch on keys targets) = refl
  behind_same x y e f (insn.Cmp op to a b) = refl
  behind_same x y e f (insn.If test a b target) = refl
  behind_same x y e f (insn.IfZero test a target) = refl
  behind_same x y e f (insn.ArrayGet item to array index) = refl
  behind_same x y e f (insn.ArrayPut item from array index) = refl
  behind_same x y e f (insn.InstanceGet item to on field) = refl
  behind_same x y e f (insn.InstancePut item from on field) = refl
  behind_same x y e f (insn.StaticGet item to field) = refl
  behind_same x y e f (insn.StaticPut item from field) = refl
  behind_same x y e f (insn.Invoke kind method args) = refl
  behind_same x y e f (insn.Unary op to from) = refl
  behind_same x y e f (insn.Binary op to a b) = refl
  behind_same x y e f (insn.Literal op to a value) = refl

  follows_same : (x y : Insn) → follows (new_insn r x, new_insn r y) ≡ follows (x, y)
  follows_same x y = behind_same x (new_insn r x) (alike r x).result (alike r x).goes (new_insn r y) ∙ (alike r y).behind x

  ends_same : (o : Option Insn) → ends (option_map (new_insn r) o) ≡ ends o
  ends_same None = refl
  ends_same (Some x) = ap not (alike r x).goes

  begins_same : (o : Option Insn) → may_begin (option_map (new_insn r) o) ≡ may_begin o
  begins_same None = refl
  begins_same (Some x) = (alike r x).begins

  enters_same : (o : Option Insn) → may_enter (option_map (new_insn r) o) ≡ may_enter o
  enters_same None = refl
  enters_same (Some x) = (alike r x).enters

  abbrev news : List Insn → List Insn
  news xs = map (new_insn r) xs

  begins_at : (xs : List Insn) (n : ℕ) → may_begin (slice_get (news xs) n) ≡ may_begin (slice_get xs n)
  begins_at xs n = ap may_begin (get_map (new_insn r) xs n) ∙ begins_same (slice_get xs n)

  enters_all : (xs : List Insn) (ts : List ℕ) → list_all (λ target. may_enter (slice_get (news xs) target)) ts ≡ list_all (λ target. may_enter (slice_get xs target)) ts
  enters_all xs [] = refl
  enters_all xs (t ∷ ts) = ap₂ (λ a b. a && b) (ap may_enter (get_map (new_insn r) xs t) ∙ enters_same (slice_get xs t)) (enters_all xs ts)

  targets_same : (xs : List Insn) (x : Insn) → targets_fit (news xs) (new_insn r x) ≡ targets_fit xs x
  targets_same xs x = ap (list_all (λ target. may_enter (slice_get (news xs) target))) (alike r x).targets ∙ enters_all xs (targets_of x)

  handles_same : (n : ℕ) (g : Region) → handles_at n (new_region r g) ≡ handles_at n g
  handles_same n g = ap (λ b. b || is_rest n g.rest) (any_map (new_handler r) (λ (x : Handler). nat_eq x.position n) (λ (x : Handler). nat_eq x.position n) (λ x. refl) g.handlers)

  caught_of : (rs : List Region) (n : ℕ) (x : Insn) → is_caught (map (new_region r) rs) n x ≡ is_caught rs n x
  caught_of rs n insn.Nop = refl
  caught_of rs n (insn.Move slot to from) = refl
  caught_of rs n (insn.MoveResult slot to) = refl
  caught_of rs n (insn.MoveException to) = any_map (new_region r) (handles_at n) (handles_at n) (handles_same n) rs
  caught_of rs n insn.ReturnVoid = refl
  caught_of rs n (insn.Return slot from) = refl
  caught_of rs n (insn.Const to value) = refl
  caught_of rs n (insn.ConstWide to value) = refl
  caught_of rs n (insn.ConstString to string) = refl
  caught_of rs n (insn.ConstClass to kind) = refl
  caught_of rs n (insn.MonitorEnter on) = refl
  caught_of rs n (insn.MonitorExit on) = refl
  caught_of rs n (insn.CheckCast on kind) = refl
  caught_of rs n (insn.InstanceOf to from kind) = refl
  caught_of rs n (insn.ArrayLength to from) = refl
  caught_of rs n (insn.NewInstance to kind) = refl
  caught_of rs n (insn.NewArray to size kind) = refl
  caught_of rs n (insn.FilledNewArray kind args) = refl
  caught_of rs n (insn.FillArray on width items) = refl
  caught_of rs n (insn.Throw on) = refl
  caught_of rs n (insn.Goto target) = refl
  caught_of rs n (insn.PackedSwitch on first targets) = refl
  caught_of rs n (insn.SparseSwitch on keys targets) = refl
  caught_of rs n (insn.Cmp op to a b) = refl
  caught_of rs n (insn.If test a b target) = refl
  caught_of rs n (insn.IfZero test a target) = refl
  caught_of rs n (insn.ArrayGet item to array index) = refl
  caught_of rs n (insn.ArrayPut item from array index) = refl
  caught_of rs n (insn.InstanceGet item to on field) = refl
  caught_of rs n (insn.InstancePut item from on field) = refl
  caught_of rs n (insn.StaticGet item to field) = refl
  caught_of rs n (insn.StaticPut item from field) = refl
  caught_of rs n (insn.Invoke kind method args) = refl
  caught_of rs n (insn.Unary op to from) = refl
  caught_of rs n (insn.Binary op to a b) = refl
  caught_of rs n (insn.Literal op to a value) = refl

  caught_same : (rs : List Region) (n : ℕ) (x : Insn) → is_caught (map (new_region r) rs) n (new_insn r x) ≡ is_caught rs n x
  caught_same rs n x = (alike r x).caught (map (new_region r) rs) n ∙ caught_of rs n x

  -- ---- what it takes

  pub cells_same : (b : Body) → body_cells (new_body r b) ≡ body_cells b
  cells_same b = ap₂ (λ m n. (b.registers + 1) * m + n) (map_long (new_insn r) b.insns) (sum_map entries_of (new_insn r) b.insns ∙ sum_same (λ x. entries_of (new_insn r x)) entries_of (λ x. (alike r x).entries) b.insns)

  region_same : (g : Region) → region_items (new_region r g) ≡ region_items g
  region_same g = ap (λ n. n + rest_items g.rest) (map_long (new_handler r) g.handlers)

  pub items_same : (o : Option Body) → body_items (option_map (new_body r) o) ≡ body_items o
  items_same None = refl
  items_same (Some b) = sum_map region_items (new_region r) b.regions ∙ sum_same (λ g. region_items (new_region r g)) region_items region_same b.regions

module _ (p : Program) (i : Interner) (few : IsShort p) (h : IsInterned p i) where
  abbrev q : Program
  q = written_by i p

  abbrev r : Renumber
  r = i.numbers

  abbrev AllUsed : List Named → Type 0
  AllUsed ns = AllByRecursion (IsUsed (used_in p)) ns

  numbers_now : (x : Insn) → AllUsed (insn_names x) → numbers_fit x p ≡ true → numbers_fit (new_insn r x) q ≡ true
  unfolding numbers_fit
  numbers_now insn.Nop u t = refl
  numbers_now (insn.Move slot to from) u t = refl
  numbers_now (insn.MoveResult slot to) u t = refl
  numbers_now (insn.MoveException to) u t = refl
  numbers_now insn.ReturnVoid u t = refl
  numbers_now (insn.Return slot from) u t = refl
  numbers_now (insn.Const to value) u t = refl
  numbers_now (insn.ConstWide to value) u t = refl
  numbers_now (insn.ConstString to string) u t = string_kept p i few h string u.0 t
  numbers_now (insn.ConstClass to kind) u t = type_kept p i few h kind u.0 t
  numbers_now (insn.MonitorEnter on) u t = refl
  numbers_now (insn.MonitorExit on) u t = refl
  numbers_now (insn.CheckCast on kind) u t = type_kept p i few h kind u.0 t
  numbers_now (insn.InstanceOf to from kind) u t = type_kept p i few h kind u.0 t
  numbers_now (insn.ArrayLength to from) u t = refl
  numbers_now (insn.NewInstance to kind) u t = type_kept p i few h kind u.0 t
  numbers_now (insn.NewArray to size kind) u t = type_kept p i few h kind u.0 t
  numbers_now (insn.FilledNewArray kind args) u t = type_kept p i few h kind u.0 t
  numbers_now (insn.FillArray on width items) u t = refl
  numbers_now (insn.Throw on) u t = refl
  numbers_now (insn.Goto target) u t = refl
  numbers_now (insn.PackedSwitch on first targets) u t = refl
  numbers_now (insn.SparseSwitch on keys targets) u t = refl
  numbers_now (insn.Cmp op to a b) u t = refl
  numbers_now (insn.If test a b target) u t = refl
  numbers_now (insn.IfZero test a target) u t = refl
  numbers_now (insn.ArrayGet item to array index) u t = refl
  numbers_now (insn.ArrayPut item from array index) u t = refl
  numbers_now (insn.InstanceGet item to on field) u t = field_kept p i few h field u.0 t
  numbers_now (insn.InstancePut item from on field) u t = field_kept p i few h field u.0 t
  numbers_now (insn.StaticGet item to field) u t = field_kept p i few h field u.0 t
  numbers_now (insn.StaticPut item from field) u t = field_kept p i few h field u.0 t
  numbers_now (insn.Invoke kind method args) u t = method_kept p i few h method u.0 t
  numbers_now (insn.Unary op to from) u t = refl
  numbers_now (insn.Binary op to a b) u t = refl
  numbers_now (insn.Literal op to a value) u t = refl

  insn_now : (b : Body) (n : ℕ) (x : Insn) → AllUsed (insn_names x) → insn_fits p b (n, x) ≡ true → insn_fits q (new_body r b) (n, new_insn r x) ≡ true
  unfolding insn_fits
  insn_now b n x u t =
      let y = new_insn r x in
      let a = is_encodable x in
      let c = registers_fit x b.registers in
      let d = numbers_fit x p in
      let e = targets_fit b.insns x in
      let f = leaves n x in
      let g = is_caught b.regions n x in
      let left = and_left (a && (c && d)) (e && (f && g)) t in
      let right = and_right (a && (c && d)) (e && (f && g)) t in
      let more = and_right a (c && d) left in
      let last = and_right e (f && g) right in
      let gs = map (new_region r) b.regions in
      and_both (is_encodable y && (registers_fit y b.registers && numbers_fit y q)) (targets_fit (news r b.insns) y && (leaves n y && is_caught gs n y))
      (and_both (is_encodable y) (registers_fit y b.registers && numbers_fit y q) ((alike r x).encodable ∙ and_left a (c && d) left)
      (and_both (registers_fit y b.registers) (numbers_fit y q) ((alike r x).registers b.registers ∙ and_left c d more) (numbers_now x u (and_right c d more))))
      (and_both (targets_fit (news r b.insns) y) (leaves n y && is_caught gs n y) (targets_same r b.insns x ∙ and_left e (f && g) right)
      (and_both (leaves n y) (is_caught gs n y) ((alike r x).leaves n ∙ and_left f g last) (caught_same r b.regions n x ∙ and_right f g last)))

  insns_now : (b : Body) (n : ℕ) (xs : List Insn) → AllUsed (flat_map insn_names xs) → list_all (insn_fits p b) (enumerate_from n xs) ≡ true → list_all (insn_fits q (new_body r b)) (enumerate_from n (news r xs)) ≡ true
  insns_now b n [] u t = refl
  insns_now b n (x ∷ xs) u t =
      and_both (insn_fits q (new_body r b) (n, new_insn r x)) (list_all (insn_fits q (new_body r b)) (enumerate_from (n + 1) (news r xs)))
      (insn_now b n x (all_left (IsUsed (used_in p)) (insn_names x) (flat_map insn_names xs) u) (and_left (insn_fits p b (n, x)) (list_all (insn_fits p b) (enumerate_from (n + 1) xs)) t))
      (insns_now b (n + 1) xs (all_right (IsUsed (used_in p)) (insn_names x) (flat_map insn_names xs) u) (and_right (insn_fits p b (n, x)) (list_all (insn_fits p b) (enumerate_from (n + 1) xs)) t))

  handler_now : (is : List Insn) (x : Handler) → AllUsed (handler_names x) → handler_fits p is x ≡ true → handler_fits q (news r is) (new_handler r x) ≡ true
  handler_now is x u t =
      let a = has_type p x.kind in
      let b = may_begin (slice_get is x.position) in
      and_both (has_type q (new_type r x.kind)) (may_begin (slice_get (news r is) x.position)) (type_kept p i few h x.kind u.0 (and_left a b t)) (begins_at r is x.position ∙ and_right a b t)

  rest_same : (is : List Insn) (o : Option ℕ) → rest_fits (news r is) o ≡ rest_fits is o
  rest_same is None = refl
  rest_same is (Some n) = begins_at r is n

  catches_same : (g : Region) → catches (new_region r g) ≡ catches g
  catches_same g = ap (λ n. not (nat_eq n 0) || is_some g.rest) (map_long (new_handler r) g.handlers)

  region_now : (is : List Insn) (g : Region) → AllUsed (region_names g) → region_fits p is g ≡ true → region_fits q (news r is) (new_region r g) ≡ true
  region_now is g u t =
      let a = nat_lt g.first g.end in
      let b = nat_le g.end (length is) in
      let c = catches g in
      let d = list_all (handler_fits p is) g.handlers in
      let e = rest_fits is g.rest in
      let right = and_right (a && b) (c && (d && e)) t in
      let left = and_left (a && b) (c && (d && e)) t in
      let last = and_right c (d && e) right in
      let ks = map (new_handler r) g.handlers in
      and_both (a && nat_le g.end (length (news r is))) (catches (new_region r g) && (list_all (handler_fits q (news r is)) ks && rest_fits (news r is) g.rest))
      (and_both a (nat_le g.end (length (news r is))) (and_left a b left) (ap (nat_le g.end) (map_long (new_insn r) is) ∙ and_right a b left))
      (and_both (catches (new_region r g)) (list_all (handler_fits q (news r is)) ks && rest_fits (news r is) g.rest) (catches_same g ∙ and_left c (d && e) right)
      (and_both (list_all (handler_fits q (news r is)) ks) (rest_fits (news r is) g.rest)
      (all_named (IsUsed (used_in p)) handler_names (new_handler r) (handler_fits p is) (handler_fits q (news r is)) (handler_now is) g.handlers u (and_left d e last)) (rest_same is g.rest ∙ and_right d e last)))

  regions_now : (is : List Insn) (gs : List Region) → AllUsed (flat_map region_names gs) → regions_fit p is gs ≡ true → regions_fit q (news r is) (map (new_region r) gs) ≡ true
  unfolding regions_fit
  regions_now is gs u t =
      let a = list_all (region_fits p is) gs in
      let b = list_all are_apart (neighbours gs) in
      and_both (list_all (region_fits q (news r is)) (map (new_region r) gs)) (list_all are_apart (neighbours (map (new_region r) gs)))
      (all_named (IsUsed (used_in p)) region_names (new_region r) (region_fits p is) (region_fits q (news r is)) (region_now is) gs u (and_left a b t))
      (side_map (new_region r) are_apart are_apart (λ x y. refl) gs ∙ and_right a b t)

  pub body_now : (b : Body) → AllByRecursion (IsUsed (used_in p)) (body_names b) → body_fits p b ≡ true → body_fits (written_by i p) (new_body i.numbers b) ≡ true
  unfolding body_fits body_names
  body_now b u t =
      let a = may_begin (slice_get b.insns 0) in
      let c = ends (slice_get b.insns (length b.insns - 1)) in
      let d = list_all follows (neighbours b.insns) in
      let e = list_all (insn_fits p b) (enumerate_from 0 b.insns) in
      let f = regions_fit p b.insns b.regions in
      let left = and_left (a && c) (d && (e && f)) t in
      let right = and_right (a && c) (d && (e && f)) t in
      let last = and_right d (e && f) right in
      let is = news r b.insns in
      let gs = map (new_region r) b.regions in
      let a' = may_begin (slice_get is 0) in
      let c' = ends (slice_get is (length is - 1)) in
      let d' = list_all follows (neighbours is) in
      let e' = list_all (insn_fits q (new_body r b)) (enumerate_from 0 is) in
      let f' = regions_fit q is gs in
      and_both (a' && c') (d' && (e' && f'))
      (and_both a' c' (begins_at r b.insns 0 ∙ and_left a c left)
      (ap (λ n. ends (slice_get is (n - 1))) (map_long (new_insn r) b.insns) ∙ ap ends (get_map (new_insn r) b.insns (length b.insns - 1)) ∙ ends_same r (slice_get b.insns (length b.insns - 1)) ∙ and_right a c left))
      (and_both d' (e' && f') (side_map (new_insn r) follows follows (follows_same r) b.insns ∙ and_left d (e && f) right)
      (and_both e' f' (insns_now b 0 b.insns (all_left (IsUsed (used_in p)) (flat_map insn_names b.insns) (flat_map region_names b.regions) u) (and_left e f last))
      (regions_now b.insns b.regions (all_right (IsUsed (used_in p)) (flat_map insn_names b.insns) (flat_map region_names b.regions) u) (and_right e f last))))
