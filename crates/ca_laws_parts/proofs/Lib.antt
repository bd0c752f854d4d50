pub mod UpdatesNumbers
pub mod Seen
pub mod Rising
pub mod InStep
pub mod Posted
pub mod Acts
pub mod WritesLists
pub mod Once
pub mod Parts
pub mod Records
pub mod WritesLives
pub mod WritesFinishes
pub mod Leaving
pub mod Coming
pub mod Going
pub mod WritesTold
pub mod WritesEnding
pub mod WritesMoves
pub mod Midway
pub mod WritesEvents
pub mod Doing
pub mod Step
pub mod Waited
pub mod Stepped
pub mod Now
pub mod Frames
pub mod Cores
pub mod Seats
pub mod HappensPost
pub mod Closing
pub mod Unsaid
pub mod HappensStep
pub mod HappensAdd
pub mod HappensClient
pub mod Says
pub mod Grown
pub mod Replied
pub mod Lasting
pub mod LastingEvents
pub mod LastingStep
pub mod Fresh
pub mod Every
pub mod LastingAll
pub mod InStepLasts
pub mod SaysRuns
pub mod Noticed
pub mod CircuitLists
pub mod Flows
pub mod Settled
pub mod Replies
pub mod Requests
pub mod CircuitTold
pub mod Held
pub mod Marks
pub mod Many
pub mod Clears
pub mod Sids
pub mod CircuitSteps
pub mod Answering
pub mod CircuitCalls
pub mod CircuitHeard
pub mod Answered
pub mod Subscribes
pub mod Creates
pub mod Ended
pub mod Alike
pub mod CircuitLives
pub mod Writes
pub mod Refused
pub mod Others
pub mod Ends
pub mod Connects
pub mod Filtered
pub mod Rests
pub mod Given
pub mod Calling
pub mod Giving
pub mod Growing
mod Sound
mod Backs
mod Turns
mod CallsAsking
mod Finding
mod Reading
mod Connecting
mod ClientCalls
mod CallsStepping
mod Saying
pub mod RunsSending
pub mod RunsCalls
pub mod RunsEnding
pub mod RunsMoves
pub mod Worlds
pub mod Happens
pub mod Bytes
pub mod RunsHeard
pub mod Ids
pub mod RunsSteps
pub mod Finds
pub mod ClientSteps
pub mod RunsServers
pub mod Handled
pub mod RunsServerSteps
pub mod Named
pub mod Stands
pub mod ClientsKeep
pub mod ClientsMore
pub mod ServersKeep
pub mod RunsEvents
pub mod Known
pub mod OtherEvents
pub mod Restarts
pub mod Accepts
pub mod NewCircuits
pub mod RunsTicks
pub mod CalmEvents
pub mod Since
pub mod Puts
pub mod PutEvents
pub mod Thins
pub mod Messages
pub mod Laters
pub mod KeptNumbers
pub mod Updates
pub mod KeptRuns
pub mod Channels
pub mod Removals
pub mod KeptFinishes
pub mod Streaming
pub mod Links
pub mod Clients
pub mod ClientEvents
pub mod BytesTicks
pub mod ServerEnds
pub mod BytesServers
pub mod ServerEvents
pub mod BytesServerSteps
pub mod BytesMoves
pub mod Comes
pub mod Made
pub mod Tables
pub mod Handles
pub mod HandleEvents
pub mod Finish
pub mod Fits
pub mod Speaks
pub mod HearSpeaks
pub mod MoreSpeaks
pub mod Quiet
pub mod Speaking
pub mod BytesRuns
pub mod DueFits
pub mod ServerFits
pub mod BytesServerCalls
pub mod ServerSpeaking
pub mod BytesAsking
pub mod Causes
mod Spoken
mod EndKnown
mod Dealing
mod Carried
mod Handling
mod ServerSending
mod ServerServerCalls
mod ServerStepping
