use Rattle.std.proofs.Common.{◌≡◌, ◌∙◌, ◌<◌, ◌≤◌, length, ap, arith, refl, sym, Some, slice_get}
use Rattle.std.proofs.lemmas.Option.{slice_get_read}
use Rattle.thp_run.proofs.EachLaws.{kept_to, kept_none, kept_more, kept_all, kept_of_all, length-kept}
use Rattle.thp_run.proofs.node_passes.keep_each.Goals as goal
use Rattle.thp_run.proofs.node_passes.keep_each.Given.{Over}

pub loop-index-init : goal.loop-index-init
loop-index-init g c = sym (kept_none c.args.nodes.now.items)

-- the node at hand
at : (g : Over) (c : goal.After-index_mut g) → slice_get (kept_to c.loop-index.index c.args.nodes.now.items) c.loop-index.index ≡ Some c.index_mut.result.now
at g c =
    let hs = c.args.nodes.now.items in
    let k = c.loop-index.index in
    let items = c.loop-index.nodes.items in
    let same : length items ≡ length (kept_to k hs) = ap length c.loop-index.invariant in
    let lt : k < length items = omega (arith, c.loop-index-test.true, c.len-index-end.ensures, same, length-kept k hs) in
    ap (λ l. slice_get l k) (sym c.loop-index.invariant) ∙ slice_get_read items (length items) k c.index_mut.result.now refl lt c.index_mut.ensures.value

pub keep_node-requires : goal.keep_node-requires
keep_node-requires g c = kept_of_all c.loop-index.index c.loop-index.index c.args.nodes.now.items c.index_mut.result.now c.requires (at g c)

pub loop-index-preserved : goal.loop-index-preserved
loop-index-preserved g c =
    rw (c.keep_node.ensures, c.loop-index.invariant) (kept_more c.loop-index.index c.args.nodes.now.items c.index_mut.result.now (at g c.before.before))

pub returns : goal.returns
returns g c =
    let hs = c.args.nodes.now.items in
    let le : length hs ≤ c.loop-index.index = omega (arith, c.loop-index-test.false, c.len-index-end.ensures) in
    c.loop-index.invariant ∙ kept_all c.loop-index.index hs le
