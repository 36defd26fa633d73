-- Plans that grow from method to method.
use Rattle.std.proofs.Common.{◌≡◌, ℕ, zero, suc, ◌+◌, ◌<◌, ◌≤◌, List, [], ◌∷◌, ◌++◌, map, take, drop, length, get_or, replicate, refl, sym, ap, ◌∙◌, subst, arith, add-one}
use Rattle.std.specs.List.{AllZip}
use Rattle.std.proofs.Math.ListN.{set}
use Rattle.std.proofs.lemmas.List.{take_more, take_all, drop_more, drop_all, length_push}
use Rattle.program_model.specs.declared.program.Method.{Method}
use Rattle.program_model.specs.declared.program.Class.{Class}
use Rattle.program_model.specs.declared.pass.Origin.{Origin}
use Rattle.body_edit.specs.declared.fate.Fate.{Fate}
use Rattle.thin_pass.specs.Plans.{noted, AreFor, AreForClasses, AreLong, method_by, methods_by, class_by, classes_by, class_origins, all_origins}

-- ---- lists side by side

zip_push : {A B : Type 0} (R : A → B → Type 0) (xs : List A) (ys : List B) (x : A) (y : B) → AllZip R xs ys → R x y → AllZip R (xs ++ x ∷ []) (ys ++ y ∷ [])
zip_push R [] [] x y h r = (r, _)
zip_push R [] (z ∷ zs) x y h r = absurd h
zip_push R (z ∷ zs) [] x y h r = absurd h
zip_push R (z ∷ zs) (w ∷ ws) x y h r = (h.0, zip_push R zs ws x y h.1 r)

pub zip_more : {A B : Type 0} (R : A → B → Type 0) (xs : List A) (ys ys' : List B) (i : ℕ) (d : A) (y : B) → i < length xs → AllZip R (take i xs) ys → R (get_or xs i d) y → ys' ≡ ys ++ y ∷ [] → AllZip R (take (i + 1) xs) ys'
zip_more R xs ys ys' i d y lt h r e = subst (λ l. AllZip R l ys') (sym (take_more xs i d lt)) (subst (AllZip R (take i xs ++ get_or xs i d ∷ [])) (sym e) (zip_push R (take i xs) ys (get_or xs i d) y h r))

pub zip_all : {A B : Type 0} (R : A → B → Type 0) (xs : List A) (ys : List B) (i : ℕ) → length xs ≤ i → AllZip R (take i xs) ys → AllZip R xs ys
zip_all R xs ys i all h = subst (λ l. AllZip R l ys) (take_all i xs all) h

pub zip_long : {A B : Type 0} (R : A → B → Type 0) (xs : List A) (ys : List B) → AllZip R xs ys → length xs ≡ length ys
zip_long R [] [] h = refl
zip_long R [] (y ∷ ys) h = absurd h
zip_long R (x ∷ xs) [] h = absurd h
zip_long R (x ∷ xs) (y ∷ ys) h = ap suc (zip_long R xs ys h.1)

-- ---- methods

by_next : (plan : List (List Fate)) (ms : List Method) (fs : List Fate) (i : ℕ) (d : Method) → length plan ≡ i → i < length ms → set (methods_by plan ms) i (method_by fs (get_or ms i d)) ≡ methods_by (plan ++ fs ∷ []) ms
by_next [] [] fs i d e h = absurd (omega arith)
by_next [] (m ∷ ms) fs zero d e h = refl
by_next [] (m ∷ ms) fs (suc i) d e h = absurd (omega (arith, e))
by_next (gs ∷ plan) [] fs i d e h = absurd (omega arith)
by_next (gs ∷ plan) (m ∷ ms) fs zero d e h = absurd (omega (arith, e))
by_next (gs ∷ plan) (m ∷ ms) fs (suc i) d e h = ap (λ l. method_by gs m ∷ l) (by_next plan ms fs i d (omega (arith, e)) (omega arith))

-- a method behind the plan's end is as it was
same_behind : (plan : List (List Fate)) (ms : List Method) (i : ℕ) (d : Method) → length plan ≤ i → get_or (methods_by plan ms) i d ≡ get_or ms i d
same_behind [] ms i d le = refl
same_behind (fs ∷ plan) [] i d le = refl
same_behind (fs ∷ plan) (m ∷ ms) zero d le = absurd (omega (arith, le))
same_behind (fs ∷ plan) (m ∷ ms) (suc i) d le = same_behind plan ms i d (omega (arith, le))

long_by : (plan : List (List Fate)) (ms : List Method) → length (methods_by plan ms) ≡ length ms
long_by [] ms = refl
long_by (fs ∷ plan) [] = refl
long_by (fs ∷ plan) (m ∷ ms) = ap suc (long_by plan ms)

-- so many methods have their fates
pub record Planned (thins : Method → List Fate → Type 0) (old new : List Method) (plan : List (List Fate)) (i : ℕ) : Type 0 where
  pub count : length plan ≡ i
  pub fates : AreFor thins (take i old) plan
  pub by : new ≡ methods_by plan old

pub planned_none : (thins : Method → List Fate → Type 0) (ms : List Method) → Planned thins ms ms [] 0
planned_none thins ms = record { count = refl; fates = _; by = refl }

pub planned_more : (thins : Method → List Fate → Type 0) (old new : List Method) (plan plan' : List (List Fate)) (i : ℕ) (d m : Method) (fs : List Fate) → i < length old → Planned thins old new plan i
    → thins (get_or new i d) fs → m ≡ method_by fs (get_or new i d) → plan' ≡ plan ++ fs ∷ [] → Planned thins old (set new i m) plan' (i + 1)
planned_more thins old new plan plan' i d m fs lt p t e f =
    let here : get_or new i d ≡ get_or old i d = ap (λ (l : List Method). get_or l i d) p.by ∙ same_behind plan old i d (omega (arith, p.count)) in
    record {
      count = ap length f ∙ length_push plan fs ∙ ap (λ (n : ℕ). n + 1) p.count;
      fates = zip_more thins old plan plan' i d fs lt p.fates (subst (λ (k : Method). thins k fs) here t) f;
      by = ap (λ (l : List Method). set l i m) p.by ∙ ap (set (methods_by plan old) i) (e ∙ ap (method_by fs) here) ∙ by_next plan old fs i d p.count lt ∙ ap (λ (l : List (List Fate)). methods_by l old) (sym f);
    }

pub planned_all : (thins : Method → List Fate → Type 0) (old new : List Method) (plan : List (List Fate)) (i : ℕ) → length old ≤ i → Planned thins old new plan i → AreFor thins old plan
planned_all thins old new plan i all p = zip_all thins old plan i all p.fates

-- ---- classes

class_next : (plan : List (List (List Fate))) (cs : List Class) (ps : List (List Fate)) (i : ℕ) (d : Class) → length plan ≡ i → i < length cs → set (classes_by plan cs) i (class_by ps (get_or cs i d)) ≡ classes_by (plan ++ ps ∷ []) cs
class_next [] [] ps i d e h = absurd (omega arith)
class_next [] (c ∷ cs) ps zero d e h = refl
class_next [] (c ∷ cs) ps (suc i) d e h = absurd (omega (arith, e))
class_next (qs ∷ plan) [] ps i d e h = absurd (omega arith)
class_next (qs ∷ plan) (c ∷ cs) ps zero d e h = absurd (omega (arith, e))
class_next (qs ∷ plan) (c ∷ cs) ps (suc i) d e h = ap (λ l. class_by qs c ∷ l) (class_next plan cs ps i d (omega (arith, e)) (omega arith))

class_behind : (plan : List (List (List Fate))) (cs : List Class) (i : ℕ) (d : Class) → length plan ≤ i → get_or (classes_by plan cs) i d ≡ get_or cs i d
class_behind [] cs i d le = refl
class_behind (ps ∷ plan) [] i d le = refl
class_behind (ps ∷ plan) (c ∷ cs) zero d le = absurd (omega (arith, le))
class_behind (ps ∷ plan) (c ∷ cs) (suc i) d le = class_behind plan cs i d (omega (arith, le))

pub record ClassesPlanned (thins : Method → List Fate → Type 0) (old new : List Class) (plan : List (List (List Fate))) (i : ℕ) : Type 0 where
  pub count : length plan ≡ i
  pub fates : AreForClasses thins (take i old) plan
  pub by : new ≡ classes_by plan old

pub classes_none : (thins : Method → List Fate → Type 0) (cs : List Class) → ClassesPlanned thins cs cs [] 0
classes_none thins cs = record { count = refl; fates = _; by = refl }

pub classes_more : (thins : Method → List Fate → Type 0) (old new : List Class) (plan plan' : List (List (List Fate))) (i : ℕ) (d c : Class) (ps : List (List Fate)) → i < length old → ClassesPlanned thins old new plan i
    → AreFor thins (get_or new i d).methods ps → c ≡ class_by ps (get_or new i d) → plan' ≡ plan ++ ps ∷ [] → ClassesPlanned thins old (set new i c) plan' (i + 1)
classes_more thins old new plan plan' i d c ps lt p t e f =
    let here : get_or new i d ≡ get_or old i d = ap (λ (l : List Class). get_or l i d) p.by ∙ class_behind plan old i d (omega (arith, p.count)) in
    record {
      count = ap length f ∙ length_push plan ps ∙ ap (λ (n : ℕ). n + 1) p.count;
      fates = zip_more (λ (k : Class) qs. AreFor thins k.methods qs) old plan plan' i d ps lt p.fates (subst (λ (k : Class). AreFor thins k.methods ps) here t) f;
      by = ap (λ (l : List Class). set l i c) p.by ∙ ap (set (classes_by plan old) i) (e ∙ ap (class_by ps) here) ∙ class_next plan old ps i d p.count lt ∙ ap (λ (l : List (List (List Fate))). classes_by l old) (sym f);
    }

pub classes_all : (thins : Method → List Fate → Type 0) (old new : List Class) (plan : List (List (List Fate))) (i : ℕ) → length old ≤ i → ClassesPlanned thins old new plan i → AreForClasses thins old plan
classes_all thins old new plan i all p = zip_all (λ (k : Class) qs. AreFor thins k.methods qs) old plan i all p.fates

-- ---- how long the lists are

pub long_plan : (thins : Method → List Fate → Type 0) (cs : List Class) (plan : List (List (List Fate))) → AreForClasses thins cs plan → AreLong (classes_by plan cs) plan
long_plan thins [] [] h = _
long_plan thins [] (ps ∷ plan) h = absurd h
long_plan thins (c ∷ cs) [] h = absurd h
long_plan thins (c ∷ cs) (ps ∷ plan) h = (long_by ps c.methods ∙ zip_long thins c.methods ps h.0, long_plan thins cs plan h.1)

pub long_classes : (cs : List Class) (plan : List (List (List Fate))) → AreLong cs plan → length cs ≡ length plan
long_classes cs plan h = zip_long (λ (c : Class) ps. length c.methods ≡ length ps) cs plan h

pub long_at : (cs : List Class) (plan : List (List (List Fate))) (i : ℕ) (d : Class) (e : List (List Fate)) → AreLong cs plan → i < length plan → length (get_or cs i d).methods ≡ length (get_or plan i e)
long_at [] [] i d e h lt = absurd (omega arith)
long_at [] (ps ∷ plan) i d e h lt = absurd h
long_at (c ∷ cs) [] i d e h lt = absurd h
long_at (c ∷ cs) (ps ∷ plan) zero d e h lt = h.0
long_at (c ∷ cs) (ps ∷ plan) (suc i) d e h lt = long_at cs plan i d e h.1 (omega arith)

-- ---- origins

pub origins_step : (ms : List Method) (plan : List (List Fate)) (i : ℕ) (d : Method) (e : List Fate) (os os' all : List (List Origin)) → i < length ms → i < length plan → os' ≡ noted (get_or ms i d).name (get_or plan i e) os
    → class_origins (drop i ms) (drop i plan) os ≡ all → class_origins (drop (i + 1) ms) (drop (i + 1) plan) os' ≡ all
origins_step ms plan i d e os os' all lt lt' s h =
    ap (class_origins (drop (i + 1) ms) (drop (i + 1) plan)) s
    ∙ sym (ap (λ l. class_origins l (drop i plan) os) (drop_more ms i d lt) ∙ ap (λ l. class_origins (get_or ms i d ∷ drop (i + 1) ms) l os) (drop_more plan i e lt')) ∙ h

pub origins_end : (ms : List Method) (plan : List (List Fate)) (i : ℕ) (os all : List (List Origin)) → length ms ≤ i → class_origins (drop i ms) (drop i plan) os ≡ all → os ≡ all
origins_end ms plan i os all le h = sym (ap (λ l. class_origins l (drop i plan) os) (drop_all i ms le)) ∙ h

pub all_step : (cs : List Class) (plan : List (List (List Fate))) (i : ℕ) (d : Class) (e : List (List Fate)) (os os' all : List (List Origin)) → i < length cs → i < length plan → os' ≡ class_origins (get_or cs i d).methods (get_or plan i e) os
    → all_origins (drop i cs) (drop i plan) os ≡ all → all_origins (drop (i + 1) cs) (drop (i + 1) plan) os' ≡ all
all_step cs plan i d e os os' all lt lt' s h =
    ap (all_origins (drop (i + 1) cs) (drop (i + 1) plan)) s
    ∙ sym (ap (λ l. all_origins l (drop i plan) os) (drop_more cs i d lt) ∙ ap (λ l. all_origins (get_or cs i d ∷ drop (i + 1) cs) l os) (drop_more plan i e lt')) ∙ h

pub all_end : (cs : List Class) (plan : List (List (List Fate))) (i : ℕ) (os all : List (List Origin)) → length cs ≤ i → all_origins (drop i cs) (drop i plan) os ≡ all → os ≡ all
all_end cs plan i os all le h = sym (ap (λ l. all_origins l (drop i plan) os) (drop_all i cs le)) ∙ h

-- ---- the loops

pub planned_first : (thins : Method → List Fate → Type 0) (ms : List Method) (plan : List (List Fate)) → plan ≡ [] → Planned thins ms ms plan 0
planned_first thins ms plan e = subst (λ (l : List (List Fate)). Planned thins ms ms l 0) (sym e) (planned_none thins ms)

pub classes_first : (thins : Method → List Fate → Type 0) (cs : List Class) (plan : List (List (List Fate))) → plan ≡ [] → ClassesPlanned thins cs cs plan 0
classes_first thins cs plan e = subst (λ (l : List (List (List Fate))). ClassesPlanned thins cs cs l 0) (sym e) (classes_none thins cs)

-- the program's own plan
pub long_program : (thins : Method → List Fate → Type 0) (cs ds : List Class) (plan given : List (List (List Fate))) → AreForClasses thins cs plan → ds ≡ classes_by plan cs → given ≡ plan → AreLong ds given
long_program thins cs ds plan given h e f = subst (λ (l : List (List (List Fate))). AreLong ds l) (sym f) (subst (λ (l : List Class). AreLong l plan) (sym e) (long_plan thins cs plan h))
