-- One name that opens every definition, for what is computed: `unfolding opened`. Assumes nothing.
use Rattle.std.specs.Prelude.{ℕ}
use mathlib.Core.List.{flat_map}
use Rattle.std.specs.Int.Count.{ones_in}
use Rattle.laws.specs.Choosing.{least_from, numbers_from, keep, lex_by, insert_by, sort_by, first_from, first_by}
use Rattle.laws.specs.Sets.{bit, with}
use Rattle.problem.specs.Table.{number_at, bytes_of, arc_of, first_arcs, arcs_of, fault_of, first_told, arcs_number, all_sound}
use Rattle.problem.specs.Spans.{first_with, mark, marked}
use Rattle.problem.specs.Blanks.{is_blank, blanks_number, none_blank}
use Rattle.problem.specs.Closed.{closed_in, closed_by}
use Rattle.problem.specs.Exposures.{field_of, exposed, to_nothing, to_all, to_one, span_field, of_arc, joined, common, spans_in, size, sharing, disjoint}
use Rattle.problem.specs.Routes.{metres_of, exposure_of, nodes_from, opens, sprout, grow, route_of, routes_from, rank_key, precedes, within, ranking, free_lengths, shortest}
use Rattle.problem.specs.Pairs.{shared_risks, shared_count, shared_spans, total, judge_key, judged, pairs_of, on_every, floor, candidates, some_at, best, settled_by_length, settled, least_settled, ranked, verdict}
use Rattle.problem.specs.Apart.{is_in, none_in_both, inner_nodes, lists_apart, judges}
use Rattle.problem.specs.Reply.{after, places_of, reply_of, first_number, size_checks, request_checks, arc_checks, blank_checks, closed_checks, refusal, planned, planned_unless, answer_among}
use Rattle.problem.specs.Mending.{staying_below, kept_arcs, mended_table, torn_end, changes, change_bytes, mended_list, change_in, changes_in, old_number, mend_checks, mending_unless, mending}
use Rattle.problem.specs.Printed.{kilometres, text, digits, fields, lines, printed, request_of, faulty, output}

unfoldable pub opened : ℕ
unfolding ones_in flat_map least_from numbers_from keep lex_by insert_by sort_by first_from first_by bit with number_at bytes_of arc_of first_arcs arcs_of fault_of first_told arcs_number all_sound first_with mark marked is_blank blanks_number none_blank closed_in closed_by field_of exposed to_nothing to_all to_one span_field of_arc joined common spans_in size sharing disjoint metres_of exposure_of nodes_from opens sprout grow route_of routes_from rank_key precedes within ranking free_lengths shortest shared_risks shared_count shared_spans total judge_key judged pairs_of on_every floor candidates some_at best settled_by_length settled least_settled ranked verdict after places_of reply_of first_number size_checks request_checks arc_checks blank_checks closed_checks refusal planned planned_unless answer_among is_in none_in_both inner_nodes lists_apart judges staying_below kept_arcs mended_table torn_end changes change_bytes mended_list change_in changes_in old_number mend_checks mending_unless mending kilometres text digits fields lines printed request_of faulty output
opened = 0
