use Rattle.written_file.proofs.Fit.{parts_of, class_at_fits}
use Rattle.written_file.proofs.Order.{order_is, order_behind}
use Rattle.written_file.proofs.written_order.order_law.Goals as goal

pub returns : goal.returns
returns c = record {
  is = λ p order w once acyclic h. order_is p (λ class k e. (class_at_fits p class k (parts_of p w) e).above) once acyclic order h;
  behind = λ p order w once acyclic h. order_behind p (λ class k e. (class_at_fits p class k (parts_of p w) e).above) once acyclic order h;
}
