-- W1 to W10 and the cases that are easy to get wrong, by computation.
-- Assumes nothing.
use mathlib.Core.Path.{refl}
use Rattle.operation.specs.Format.{header, encode}
use Rattle.operation.specs.Rules.{all_after, one_of, fd_length, rules, legal}
use Rattle.decoder.specs.Front.{shape_of, verdict, judge, decode, front}
use Rattle.decoder.specs.Reading.{read_at, data_at}
use Rattle.decoder.specs.Stream.{items_up_to, items_of}
use Rattle.plain_bus.specs.Held.{each_node, every_node}
use Rattle.plain_bus.specs.Submit.{take_transmit, configure, set_status, take_wakeup, answer_format_error, take_item, take_items}
use Rattle.plain_bus.specs.Order.{rank, goes_before, entries_of, entries_from, better, first_of, winner}
use Rattle.plain_bus.specs.Round.{news_for, without, losers, lost_notices, told, stay, owed, settle, after_round, age}
use Rattle.plain_bus.specs.Calls.{start, submit, wrong_injection, arbitrate, run_round, collect}
use Rattle.plain_bus.specs.Register.{none_above, valid_register, updates, open_id, with_off, note_status, enter_item, enter, is_open, remove, close_id, read_item, read}
use Rattle.plain_bus.specs.Session.{call, calls, answers, count}
use Rattle.plain_bus.specs.Network.{note_update, register_call, new_network, network_after, play}
use Rattle.plain_bus.specs.Examples.{reply, computed, expected, table, W1toW10}
use Rattle.plain_bus.specs.Cases.{cases, CasesHold, long_cases, LongCasesHold}

-- to name one of these is to open what it names: reading and writing, the bus, the register, sessions and tables
codec : Unit {0}
unfolding header encode all_after one_of fd_length rules legal shape_of verdict judge decode front read_at data_at items_up_to items_of
codec = tt

steps : Unit {0}
unfolding each_node every_node take_transmit configure set_status take_wakeup answer_format_error take_item take_items
steps = tt

order : Unit {0}
unfolding rank goes_before entries_of entries_from better first_of winner
order = tt

rounds : Unit {0}
unfolding news_for without losers lost_notices told stay owed settle after_round age
rounds = tt

bus : Unit {0}
unfolding steps order rounds start submit wrong_injection arbitrate run_round collect
bus = tt

register : Unit {0}
unfolding none_above valid_register updates open_id with_off note_status enter_item enter is_open remove close_id read_item read
register = tt

sessions : Unit {0}
unfolding codec bus register call calls answers count note_update register_call new_network network_after play reply computed expected
sessions = tt

pub w1_to_w10 : W1toW10
unfolding sessions table
w1_to_w10 = refl

pub cases_hold : CasesHold
unfolding sessions cases
cases_hold = refl

pub long_cases_hold : LongCasesHold
unfolding sessions long_cases
long_cases_hold = refl
