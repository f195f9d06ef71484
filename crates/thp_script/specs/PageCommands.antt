-- The commands about one page: the page, and the call.
use Rattle.std.specs.Prelude.{ℕ, Option, Some, None}
use Rattle.thp_history.specs.declared.page_call.Gain.TheVariants as gain
use Rattle.thp_history.specs.declared.page_call.Loss.TheVariants as loss
use Rattle.thp_history.specs.declared.page_call.PageCall.{PageCall}
use Rattle.thp_history.specs.declared.page_call.PageCall.TheVariants.{Gain, Loss}
use Rattle.thp_script.specs.declared.script.Op.{Op}
use Rattle.thp_script.specs.declared.script.Op.TheVariants as op

-- the page and the call, of a command about one page
abbrev pub page_call_of : Op → Option (ℕ × PageCall)
page_call_of (op.MapWhole page) = Some (page, Gain gain.MapWhole)
page_call_of (op.UnmapWhole page) = Some (page, Loss loss.UnmapWhole)
page_call_of (op.Map first count page) = Some (page, Gain (gain.MapSub first count))
page_call_of (op.Unmap first count page) = Some (page, Loss (loss.UnmapSub first count))
page_call_of (op.Write first count page) = Some (page, Gain (gain.Write first count))
page_call_of (op.Zero first count page) = Some (page, Gain (gain.Zero first count))
page_call_of (op.SplitPmd page) = Some (page, Gain gain.SplitPmd)
page_call_of (op.Pin page) = Some (page, Gain gain.Pin)
page_call_of (op.Unpin page) = Some (page, Loss loss.Unpin)
page_call_of o = None

-- the command of a call about one page
abbrev pub page_op : PageCall → ℕ → Op
page_op (Gain gain.MapWhole) page = op.MapWhole page
page_op (Gain (gain.MapSub first count)) page = op.Map first count page
page_op (Gain gain.SplitPmd) page = op.SplitPmd page
page_op (Gain gain.Pin) page = op.Pin page
page_op (Gain (gain.Write first count)) page = op.Write first count page
page_op (Gain (gain.Zero first count)) page = op.Zero first count page
page_op (Loss loss.UnmapWhole) page = op.UnmapWhole page
page_op (Loss (loss.UnmapSub first count)) page = op.Unmap first count page
page_op (Loss loss.Unpin) page = op.Unpin page
