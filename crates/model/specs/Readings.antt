-- The 23 readings, under a name of their own: some have the names of conditions.
pub use Rattle.model.specs.declared.Reading.{Reading}
pub use Rattle.model.specs.declared.Reading.TheVariants.{LampLevel, LampCct, LampIsOn, LampLastLevel, GroupAnyOn, GroupAllOff, GroupMemberCount, InputOccupied, InputLight, InputPosition, InputLastEventAge, TimeNow, TimeHour, TimeMinute, TimeWeekday, SunRise, SunSet, SunIsUp, Var, EventValue, EventDevice, EventInstance, EventOption}
