-- The definitions of documents 01 and 02, opened: a lemma by computation says `unfolding opened`, so that this list stands in one place.
use Rattle.std.specs.Prelude.{ℕ}
use Rattle.rules.specs.Fold.{refuse, ◌or_else◌, first, before, sum_to, sum_z, most_to, some_to, all_to, joined, list_to, sum_of, padded}
use Rattle.rules.specs.Layout.{ad_hoc, market_at, lines_at, record_count}
use Rattle.rules.specs.Refusals.{header_fault_of, header_fault, record_fault, same_record, twin_fault, records_fault, market_price_fault, mark_fault, market_fault, break_fault, out_of_order, order_fault, price_fault, unused_fault, bid_fault}
use Rattle.rules.specs.Refusals.{total_fault, actual_fault, head_fault, line_fault_with, line_fault, line_fault_at, same_key, pair_fault, key_fault, day_fault, settle_fault, view_fault, line_part_fault, cut_fault}
use Rattle.rules.specs.Steps.{bid_most, greatest_break, insert, rising, bid_breaks, hedge_point, ends, step_count, upper_end, lower_end, step_from, bid_step, source, last_price, price, flag}
use Rattle.rules.specs.Steps.{capped, hedged, holds_in, accredited, paid}
use Rattle.rules.specs.Quantities.{pricing_total, table_total, table_actual, allocated, untaken, least_from, last_agino, agino, beyond, msiq_from, msiq, constrained}
use Rattle.rules.specs.InForce.{is_for, is_above, highest, row_at, table_with, table_in_force}
use Rattle.rules.specs.Matching.{earlier, rise, fall, takes, leaves, open_rises, matches_of, matched, ten_matches}
use Rattle.rules.specs.Payments.{operating_on, pricing_on, actual_on, excess_of, no_excess, agino_on, msiq_on, constrained_on, on_step, beyond_by, milder, rate, revised_rate, is_paid, initial}
use Rattle.rules.specs.Payments.{given_back, initial_or, revised, modified, pooled_payment, is_pooled, final_payment, pool_total}
use Rattle.rules.specs.Payments.{pool_change, pool_base, pool_differs, pool_of, step_final}
use Rattle.rules.specs.Days.{step_of}
use Rattle.rules.specs.Totals.{line_payment, total, least_sum, adjusted_after, carried, adjusted, totals, adjusted_total}
use Rattle.rules.specs.Uplift.{all_from, same_group, group_total, group_adjusted, product, rounded_size, leaves_remainder, units_left, remainders_before, unit_for, share_size, share_of, uplift, uplift_answer}
use Rattle.rules.specs.Book.{le, book_header, total_pair, line_entry, book_of, book_after}
use Rattle.rules.specs.Report.{digits, decimal, signed_decimal, side_text, number_after, five_numbers, line_text, settled_text, refused_line, report_text, uplift_line, uplift_report}
use Rattle.rules.specs.Cutting.{prices, flags, bits, flag_word, missing, price_row, cut_of, cut_refused, cut_answer}
use Rattle.rules.specs.Viewing.{view_of, view_refused, view_answer}
use Rattle.rules.proofs.Worked.Cases.{view_fields, cut_fields}

unfoldable pub opened : ℕ
unfolding refuse ◌or_else◌ first before sum_to sum_z most_to some_to all_to joined list_to sum_of padded ad_hoc market_at lines_at record_count is_for
    is_above highest row_at table_with table_in_force header_fault_of header_fault market_price_fault mark_fault market_fault record_fault same_record twin_fault
    records_fault break_fault out_of_order order_fault price_fault unused_fault bid_fault total_fault actual_fault head_fault line_fault_with line_fault
    line_fault_at same_key pair_fault key_fault day_fault settle_fault view_fault line_part_fault cut_fault bid_most greatest_break insert rising bid_breaks
    hedge_point ends step_count upper_end lower_end step_from bid_step source last_price price flag capped hedged holds_in accredited paid
    pricing_total table_total table_actual allocated untaken least_from last_agino agino beyond msiq_from msiq
    constrained earlier rise fall takes leaves open_rises matches_of matched ten_matches operating_on pricing_on actual_on
    excess_of no_excess agino_on msiq_on constrained_on on_step beyond_by milder rate revised_rate is_paid initial given_back initial_or
    revised modified pooled_payment is_pooled final_payment step_of
    pool_total pool_change pool_base pool_differs pool_of
    step_final line_payment total least_sum adjusted_after carried adjusted totals adjusted_total
    all_from same_group group_total group_adjusted product rounded_size leaves_remainder units_left remainders_before unit_for share_size share_of
    uplift uplift_answer le book_header total_pair
    line_entry book_of book_after digits decimal signed_decimal side_text number_after five_numbers
    line_text settled_text refused_line report_text uplift_line uplift_report prices flags bits flag_word missing price_row cut_of cut_refused cut_answer view_of view_refused view_answer view_fields cut_fields
opened = 0
