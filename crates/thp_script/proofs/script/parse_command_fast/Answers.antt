use Rattle.thp_script.proofs.FastParsingLaws.{alloc_is, close_is, count_is, map_is, mapwhole_is, pin_is, putback_is, scan_is, splitnext_is, splitpmd_is, take_is, unmap_is, unmapwhole_is, unpin_is, write_is, zero_is}
use Rattle.thp_script.proofs.script.parse_command_fast.Goals as goal

pub parse_named_fast-requires : goal.parse_named_fast-requires
parse_named_fast-requires c = alloc_is c.args.settings.now

pub parse_named_fast-requires-in-109 : goal.parse_named_fast-requires-in-109
parse_named_fast-requires-in-109 c = map_is c.args.settings.now

pub parse_named_fast-requires-in-109-2 : goal.parse_named_fast-requires-in-109-2
parse_named_fast-requires-in-109-2 c = mapwhole_is c.args.settings.now

pub parse_named_fast-requires-in-117 : goal.parse_named_fast-requires-in-117
parse_named_fast-requires-in-117 c = unmap_is c.args.settings.now

pub parse_named_fast-requires-in-117-2 : goal.parse_named_fast-requires-in-117-2
parse_named_fast-requires-in-117-2 c = unpin_is c.args.settings.now

pub parse_named_fast-requires-in-117-3 : goal.parse_named_fast-requires-in-117-3
parse_named_fast-requires-in-117-3 c = unmapwhole_is c.args.settings.now

pub parse_named_fast-requires-in-115 : goal.parse_named_fast-requires-in-115
parse_named_fast-requires-in-115 c = splitpmd_is c.args.settings.now

pub parse_named_fast-requires-in-115-2 : goal.parse_named_fast-requires-in-115-2
parse_named_fast-requires-in-115-2 c = scan_is c.args.settings.now

pub parse_named_fast-requires-in-115-3 : goal.parse_named_fast-requires-in-115-3
parse_named_fast-requires-in-115-3 c = splitnext_is c.args.settings.now

pub parse_named_fast-requires-in-112 : goal.parse_named_fast-requires-in-112
parse_named_fast-requires-in-112 c = pin_is c.args.settings.now

pub parse_named_fast-requires-in-112-2 : goal.parse_named_fast-requires-in-112-2
parse_named_fast-requires-in-112-2 c = putback_is c.args.settings.now

pub parse_named_fast-requires-in-99 : goal.parse_named_fast-requires-in-99
parse_named_fast-requires-in-99 c = count_is c.args.settings.now

pub parse_named_fast-requires-in-99-2 : goal.parse_named_fast-requires-in-99-2
parse_named_fast-requires-in-99-2 c = close_is c.args.settings.now

pub parse_named_fast-requires-in-116 : goal.parse_named_fast-requires-in-116
parse_named_fast-requires-in-116 c = take_is c.args.settings.now

pub parse_named_fast-requires-in-119 : goal.parse_named_fast-requires-in-119
parse_named_fast-requires-in-119 c = write_is c.args.settings.now

pub parse_named_fast-requires-in-122 : goal.parse_named_fast-requires-in-122
parse_named_fast-requires-in-122 c = zero_is c.args.settings.now
