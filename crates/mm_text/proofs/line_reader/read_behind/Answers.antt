use Rattle.mm_text.proofs.ReadLemmas.{given_lanes, given_cell, given_handler, given_poke, given_fill, given_ring, given_step, given_run}
use Rattle.mm_text.proofs.line_reader.read_behind.Goals as goal

pub returns-in-Lanes : goal.returns-in-Lanes
returns-in-Lanes c = given_lanes c.args.keyword _ _ c.in-Lanes.is c.read_lanes.ensures

pub returns-in-Cell : goal.returns-in-Cell
returns-in-Cell c = given_cell c.args.keyword _ _ c.in-Cell.is c.read_cell.ensures

pub returns-in-Handler : goal.returns-in-Handler
returns-in-Handler c = given_handler c.args.keyword _ _ c.in-Handler.is c.read_handler.ensures

pub returns-in-Poke : goal.returns-in-Poke
returns-in-Poke c = given_poke c.args.keyword _ _ c.in-Poke.is c.read_poke.ensures

pub returns-in-Fill : goal.returns-in-Fill
returns-in-Fill c = given_fill c.args.keyword _ _ c.in-Fill.is c.read_fill.ensures

pub returns-in-Ring : goal.returns-in-Ring
returns-in-Ring c = given_ring c.args.keyword _ _ c.in-Ring.is c.read_ring.ensures

pub returns-in-Step : goal.returns-in-Step
returns-in-Step c = given_step c.args.keyword _ _ c.in-Step.is c.read_step.ensures

pub returns-in-Run : goal.returns-in-Run
returns-in-Run c = given_run c.args.keyword _ _ c.in-Run.is c.read_run.ensures
