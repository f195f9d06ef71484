use Rattle.std.proofs.Common.{◌≡◌, ◌≤◌, true, drop, length, arith, rules}
use Rattle.std.specs.List.{list_all}
use Rattle.std.proofs.lemmas.Bool.{and_from}
use Rattle.std.proofs.lemmas.List.Folds.{list_all-append}
use Rattle.thp_script.specs.Prelude.{is_order, AreLow}
use Rattle.thp_script.proofs.ThresholdLaws.{new_orders_low, orders_left}
use Rattle.thp_script.proofs.settings.Settings.with_orders.Goals as goal

pub invariant_of-settings : goal.invariant_of-settings
invariant_of-settings c =
    let given : list_all is_order c.args.orders.now ≡ true = search rules in
    let low : AreLow c.args.orders.now c.args.self.underused = search rules in
    let few : length c.args.orders.now ≤ length c.args.self.orders = omega arith in
    record {
      within_limits = c.args.self.within_limits;
      orders_fit = rw (c.copy_from_slice.ensures.after, list_all-append is_order c.args.orders.now (drop (length c.args.orders.now) c.args.self.orders))
          (and_from _ _ given (orders_left (length c.args.orders.now) c.args.self.orders c.args.self.orders_fit));
      thresholds_fit = rw c.copy_from_slice.ensures.after (new_orders_low c.args.orders.now c.args.self.orders c.args.self.underused few low c.args.self.thresholds_fit);
    }
